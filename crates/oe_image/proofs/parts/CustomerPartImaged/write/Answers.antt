-- The mask, and the columns one after another.
use Rattle.std.proofs.Common.{List, ℕ, Option, subst}
use Rattle.std.specs.Option.{option_map}
use Rattle.oe_extent.specs.Images.{Writes}
use Rattle.oe_extent.proofs.WriteFacts.{Writes-then}
use Rattle.oe_rows.specs.declared.before.AccountBefore.{AccountBefore}
use Rattle.oe_image.specs.Before.{customer_before, customer_columns, name_columns, address_columns}
use Rattle.oe_image.specs.Parts.{columns_of}
use Rattle.oe_image.proofs.parts.CustomerPartImaged.write.Goals as goal

pub returns : goal.returns
unfolding customer_columns name_columns address_columns
returns c =
    let text : Option (List ℕ) = option_map (λ t. t.now) c.args.self.now.data in
    let all : Writes c.args.bytes.now c.args.start (customer_before (columns_of c.of-account.result text))
    c.write_lent.new.bytes c.write_lent.result =
    Writes-then _ _ _ _ _ _ _ _ c.write_customer_mask-at.ensures
    (Writes-then _ _ _ _ _ _ _ _ c.write-at.ensures c.write_lent.ensures) in
    subst (λ (a : AccountBefore). Writes c.args.bytes.now c.args.start (customer_before (columns_of a text))
    c.write_lent.new.bytes c.write_lent.result) c.of-account.ensures all
