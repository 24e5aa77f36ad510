-- Why a program ends before its work is done, and with what status.
use Rattle.std.specs.Prelude.{ℕ, List, Bool, true, false, ◌&&◌, if◌then◌else◌, Result, Ok, Err}
use Rattle.std.specs.IoError.{error_kind}
use Rattle.std.specs.declared.io.ErrorKind.{ErrorKind}
use Rattle.std.specs.declared.io.ErrorKind.TheVariants.{BrokenPipe}
use Rattle.base.specs.declared.refusal.Refusal.{Refusal}
use Rattle.base.specs.declared.refusal.Refusal.TheVariants.{OutOfBounds, BadView}
use Rattle.command_line.specs.declared.stop.Stop.{Stop}
use Rattle.command_line.specs.declared.stop.Stop.TheVariants as stop
use Rattle.trace_text.specs.Said.{looks_like_text}
use Rattle.trace_text.specs.declared.fault.ReadError.{ReadError}
use Rattle.trace_text.specs.declared.fault.ReadError.TheVariants as error

-- a policy is refused so
abbrev pub is_of_policy : Refusal → Bool
is_of_policy (OutOfBounds place) = true
is_of_policy (BadView user) = true
is_of_policy _ = false

-- where a trace with these bytes is refused: if its policy is, it may be one as text
abbrev pub stop_at : Refusal → List ℕ → Stop
stop_at refusal bytes =
    if is_of_policy refusal && looks_like_text bytes then stop.IsText refusal else stop.Refused refusal

abbrev pub stop_of : ReadError → Stop
stop_of (error.Fault fault) = stop.Fault fault
stop_of error.OutOfMemory = stop.OutOfMemory

-- after a failed write: nobody is left to read, or it is an error
abbrev pub write_status : ErrorKind → ℕ
write_status BrokenPipe = 0
write_status _ = 1

abbrev pub status_of : Stop → ℕ
status_of stop.AnswerSummary = 0
status_of stop.Usage = 2
status_of (stop.Read name error) = 1
status_of (stop.Write error) = write_status (error_kind error)
status_of (stop.Refused refusal) = 1
status_of (stop.IsText refusal) = 1
status_of (stop.Fault fault) = 1
status_of stop.OutOfMemory = 1

-- the status with which a program ends, its work done or not
abbrev pub end_status : Result (Unit {0}) Stop → ℕ
end_status (Ok x) = 0
end_status (Err stop) = status_of stop
