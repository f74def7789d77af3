-- The reply that is lent.
use Rattle.oe_requests.specs.declared.replies.Reply.{Reply}
use Rattle.oe_requests.specs.declared.replies.Reply.TheVariants as reply
use Rattle.oe_requests.specs.declared.replies.ReplyRef.{ReplyRef}
use Rattle.oe_requests.specs.declared.replies.ReplyRef.TheVariants as lent

abbrev pub told_reply : ReplyRef → Reply
told_reply (lent.Payment r) = reply.Payment r.now
told_reply (lent.NewOrder o last c total lines) =
    reply.NewOrder (record { order = o; last = last.now; credit = c; total = total; lines = lines.now })
told_reply (lent.Delivery d) = reply.Delivery d
told_reply (lent.Deliveries ds) = reply.Deliveries ds.now
told_reply (lent.Rename c last first) =
    reply.Rename (record { customer = c; last = last.now; first = first.now })
