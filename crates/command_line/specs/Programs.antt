-- What a program says of itself, and of how it ends.
use Rattle.std.specs.Prelude.{ℕ, List, [], ◌++◌, codes, ◌==◌, if◌then◌else◌, Option, Some, None, Result, Ok, Err}
use Rattle.base.specs.Refusals.{refusal_line}
use Rattle.command_line.specs.Stops.{status_of}
use Rattle.command_line.specs.declared.program.TheConstants.{VERSION}
use Rattle.command_line.specs.declared.flag.Flag.{Flag}
use Rattle.command_line.specs.declared.flag.Flag.TheVariants.{Help, Version, Unknown}
use Rattle.command_line.specs.declared.program.Program.{Program}
use Rattle.command_line.specs.declared.stop.Stop.{Stop}
use Rattle.command_line.specs.declared.stop.Stop.TheVariants as stop
use Rattle.trace_text.specs.Faults.{fault_bytes}

abbrev pub version_text : Program → List ℕ
version_text program = program.name.now ++ (codes " " ++ (VERSION.now ++ codes "\n"))

abbrev pub usage_text : Program → List ℕ
usage_text program = codes "usage: " ++ (program.name.now ++ (codes " " ++ (program.words.now ++ codes "\n")))

abbrev pub help_text : Program → List ℕ
help_text program =
    program.about.now ++ (codes "\n\nusage: " ++ (program.name.now ++ (codes " " ++ (program.words.now
    ++ (codes "\n       " ++ (program.name.now ++ codes " --help | --version\n"))))))

-- what is written in answer to an option
abbrev pub answer_text : Program → Option Flag → List ℕ
answer_text program (Some Help) = help_text program
answer_text program (Some Version) = version_text program
answer_text program (Some Unknown) = []
answer_text program None = []

-- P, unless a write fails
abbrev pub UnlessWriteFails : Result (Unit {0}) Stop → Type 0 → Type 0
UnlessWriteFails (Err (stop.Write error)) P = Unit {0}
UnlessWriteFails _ P = P

-- what is said of why a program stops; what the system says is left open
abbrev pub stop_text : Program → Stop → Option (List ℕ)
stop_text program stop.AnswerSummary = Some []
stop_text program stop.Usage = Some (usage_text program)
stop_text program (stop.Read name error) = None
stop_text program (stop.Write error) = if status_of (stop.Write error) == 0 then Some [] else None
stop_text program (stop.Refused refusal) = Some (refusal_line refusal ++ codes "\n")
stop_text program (stop.IsText refusal) =
    Some (refusal_line refusal ++ codes "\nthis looks like a trace as text: write_trace makes bytes of it\n")
stop_text program (stop.Fault fault) = Some (fault_bytes fault ++ codes "\n")
stop_text program stop.OutOfMemory = Some (codes "out of memory\n")

-- what is said at the end of a program
abbrev pub end_text : Program → Result (Unit {0}) Stop → Option (List ℕ)
end_text program (Ok x) = Some []
end_text program (Err stop) = stop_text program stop
