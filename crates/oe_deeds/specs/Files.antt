-- The text of a file of commits.
use Rattle.std.specs.Prelude.{ℕ, List, ◌++◌, None, codes, decimal}
use Rattle.std.specs.List.{flat_map}
use Rattle.oe_rows.specs.declared.scales.Scale.{Scale}
use Rattle.oe_lines.specs.Grammar.{request_words}
use Rattle.oe_lines.specs.declared.commands.Command.TheVariants as asks
use Rattle.oe_requests.specs.declared.replies.Reply.{Reply}
use Rattle.oe_texts.specs.Reply.{reply_text}
use Rattle.oe_lines.specs.Texts.{line_of_words, line_text}
use Rattle.oe_deeds.specs.declared.commits.Commit.{Commit}

-- a terminal and the words of its request, and what parts them from the reply
abbrev pub asked_text : Commit → List ℕ
asked_text c = decimal c.terminal ++ codes " " ++ line_of_words (request_words c.request) ++ codes " => "

-- what an answer has before its reply
abbrev pub commit_front : ℕ → List ℕ
commit_front m = codes "commit " ++ decimal m ++ codes " "

-- a reply, and the end of its line
abbrev pub reply_line : Reply → List ℕ
reply_line r = reply_text r ++ codes "\n"

abbrev pub commit_line : Commit → List ℕ
commit_line c = asked_text c ++ reply_line c.reply

-- the line that opens the population, and the commits' lines in their order
abbrev pub commits_text : Scale → ℕ → List Commit → List ℕ
commits_text s extents cs =
    line_text (asks.Open s (record { extents = extents; layout = None })) ++ flat_map commit_line cs
