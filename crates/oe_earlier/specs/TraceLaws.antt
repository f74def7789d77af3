-- What rows bring may be put together in any order.
use Rattle.std.specs.Prelude.{◌≡◌, ◌-◌, ◌^◌}
use Rattle.oe_ledgers.specs.ColumnLaws.{capped_associative, capped_commutative, max_associative, max_commutative}
use Rattle.oe_ledgers.specs.ColumnLaws.{int_max_associative, int_max_commutative}
use Rattle.oe_earlier.specs.declared.traces.Trace.{Trace}
use Rattle.oe_earlier.specs.declared.traces.Residue.{Residue}
use Rattle.oe_earlier.specs.Traces.{traces_joined, residues_joined}

pub traces_associative : (a b c : Trace) → traces_joined (traces_joined a b) c ≡ traces_joined a (traces_joined b c)
traces_associative a b c = λ i. record {
  print = max_associative a.print b.print c.print i;
  rows = capped_associative (2 ^ 32 - 1) a.rows b.rows c.rows i;
}

pub traces_commutative : (a b : Trace) → traces_joined a b ≡ traces_joined b a
traces_commutative a b = λ i. record {
  print = max_commutative a.print b.print i;
  rows = capped_commutative (2 ^ 32 - 1) a.rows b.rows i;
}

pub residues_associative : (a b c : Residue)
    → residues_joined (residues_joined a b) c ≡ residues_joined a (residues_joined b c)
residues_associative a b c = λ i. record { residue = int_max_associative a.residue b.residue c.residue i }

pub residues_commutative : (a b : Residue) → residues_joined a b ≡ residues_joined b a
residues_commutative a b = λ i. record { residue = int_max_commutative a.residue b.residue i }
