-- The exit status of a drive, and the file of its commits.
use Rattle.std.specs.Prelude.{◌≡◌, ◌⊎◌, ℕ, List, [], Option, Result, Ok, Err, IsPermutation, is_err, true}
use Rattle.oe_answers.specs.Endings.{Comes, EndsWith}
use Rattle.oe_deeds.specs.Commits.{IsInOrder}
use Rattle.oe_deeds.specs.Files.{commits_text}
use Rattle.oe_deeds.specs.declared.commits.Commit.{Commit}
use Rattle.oe_drive.specs.Runs.{DriveRan}
use Rattle.oe_drive.specs.declared.runs.Ran.{Ran}
use Rattle.oe_drive.specs.declared.runs.DriveFault.{DriveFault}
use Rattle.oe_numbers.specs.declared.drives.DriveNumbers.{DriveNumbers}
use Rattle.oe_io.specs.Ports.{Sink, Sent, Cut}

-- its own, which is 0 where conditions hold and the population is restored; or 1 after a fault
abbrev pub drive_status : Result Ran DriveFault → ℕ
drive_status (Ok ran) = ran.status
drive_status (Err fault) = 1

-- a drive ran and ended so; or there was no clock, and nothing was written
abbrev pub DriveAnswered : {E : Type 0} → DriveNumbers → Option Sink → Option Sink → Result ℕ E → Type 0
DriveAnswered d old new result =
    Comes (DriveRan d old new) drive_status result ⊎ ((new ≡ old) × (is_err result ≡ true))

-- The commits that the drive kept were written, in the order of their moments, and the status is the drive's; or a
-- beginning of them was, and it is 1.
abbrev pub AreWritten : {E : Type 0} → DriveNumbers → Ran → Option Sink → Option Sink → Result ℕ E → Type 0
AreWritten d ran old new result =
    (commits : List Commit) × IsPermutation ran.deeds.commits.kept.items commits × IsInOrder commits
    × ((Sent old [] new [] (commits_text d.scale d.extents commits) × EndsWith ran.status result)
    ⊎ (Cut old [] new (commits_text d.scale d.extents commits) × EndsWith 1 result))

-- so it is behind a drive that came to its end; after a fault of it nothing is
abbrev pub FileWritten : {E : Type 0} → DriveNumbers → Result Ran DriveFault → Option Sink → Option Sink
    → Result ℕ E → Type 0
FileWritten d (Ok ran) old new result = AreWritten d ran old new result
FileWritten d (Err fault) old new result = (new ≡ old) × EndsWith 1 result

-- a drive ran and ended so, and the file was written; or there was no clock, and nothing was
abbrev pub DriveWritten : {E : Type 0} → DriveNumbers → Option Sink → Option Sink → Option Sink → Option Sink
    → Result ℕ E → Type 0
DriveWritten d old new file_old file_new result =
    ((answer : Result Ran DriveFault) × DriveRan d old new answer × FileWritten d answer file_old file_new result)
    ⊎ ((new ≡ old) × (file_new ≡ file_old) × (is_err result ≡ true))
