-- The texts of answers, one line each.
use Rattle.std.specs.Prelude.{ℕ, List, ◌++◌, decimal, codes}
use Rattle.std.specs.List.{join_with_byte}
use Rattle.oe_requests.specs.Condition.{condition_number}
use Rattle.oe_requests.specs.declared.answers.Answer.{Answer}
use Rattle.oe_requests.specs.declared.answers.Answer.TheVariants as answer
use Rattle.oe_requests.specs.declared.audits.Condition.{Condition}
use Rattle.oe_requests.specs.declared.audits.Verdict.{Verdict}
use Rattle.oe_requests.specs.declared.audits.Verdict.TheVariants as verdict
use Rattle.oe_texts.specs.Key.{key_texts}
use Rattle.oe_texts.specs.Refusal.{error_text}
use Rattle.oe_texts.specs.Reply.{reply_text, query_text}

-- holds, or fails at <key columns>
abbrev pub verdict_text : Verdict → List ℕ
verdict_text verdict.Holds = codes "holds"
verdict_text (verdict.Fails key) = codes "fails at " ++ join_with_byte 32 (key_texts key)

abbrev pub answer_text : Answer → List ℕ
answer_text answer.Begun = codes "begun"
answer_text answer.More = codes "more"
answer_text (answer.Committed moment reply) = codes "commit " ++ decimal moment ++ codes " " ++ reply_text reply
answer_text answer.Saved = codes "saved"
answer_text answer.Back = codes "back"
answer_text answer.RolledBack = codes "rolled back"
answer_text (answer.Replied reply) = query_text reply
answer_text (answer.Purged moment) = codes "purged " ++ decimal moment
answer_text (answer.Rewound moment) = codes "rewound " ++ decimal moment
answer_text (answer.Audited verdict) = verdict_text verdict
answer_text (answer.Refused refusal) = error_text refusal

-- an answer's line ends with byte 10
abbrev pub answer_line : Answer → List ℕ
answer_line a = answer_text a ++ codes "\n"

-- condition <number> <verdict>
abbrev pub audit_line : Condition → Verdict → List ℕ
audit_line c v = codes "condition " ++ decimal (condition_number c) ++ codes " " ++ verdict_text v ++ codes "\n"
