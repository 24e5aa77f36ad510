-- What is told of a text that is no trace.
use Rattle.std.specs.Prelude.{ℕ, List, ◌++◌, codes, decimal}
use Rattle.trace_text.specs.Names.{spelling}
use Rattle.trace_text.specs.declared.fault.Fault.{Fault}
use Rattle.trace_text.specs.declared.fault.ReadError.{ReadError}
use Rattle.trace_text.specs.declared.fault.ReadError.TheVariants as error
use Rattle.trace_text.specs.declared.fault.Reason.{Reason}
use Rattle.trace_text.specs.declared.fault.Reason.TheVariants.{Expected, NotNext, Missing, NotANumber, NotARequest, OutOfBounds, TooMany, NoCompartment, SeenTwice, SeesNothing, WritesUnseen, Truncated}

abbrev pub of_word : ℕ → List ℕ → List ℕ
of_word word what = codes "word " ++ (decimal word ++ what)

abbrev pub of_user : ℕ → List ℕ → List ℕ
of_user user what = codes "user " ++ (decimal user ++ what)

abbrev pub reason_bytes : Reason → List ℕ
reason_bytes (Expected name) = codes "expected " ++ spelling name
reason_bytes (NotNext next) = codes "expected number " ++ decimal next
reason_bytes (Missing word) = of_word word (codes " is missing")
reason_bytes (NotANumber word) = of_word word (codes " is not a number")
reason_bytes (NotARequest word) = of_word word (codes " is not a request")
reason_bytes (OutOfBounds word) = of_word word (codes " is out of bounds")
reason_bytes (TooMany word) = of_word word (codes " is too many")
reason_bytes (NoCompartment compartment) = codes "compartment " ++ (decimal compartment ++ codes " is not there")
reason_bytes (SeenTwice user compartment) =
    of_user user (codes " sees compartment " ++ (decimal compartment ++ codes " twice"))
reason_bytes (SeesNothing user) = of_user user (codes " sees nothing")
reason_bytes (WritesUnseen user compartment) =
    of_user user (codes " does not see compartment " ++ (decimal compartment ++ codes ", where they write"))
reason_bytes Truncated = codes "the policy is truncated"

abbrev pub fault_bytes : Fault → List ℕ
fault_bytes fault = codes "line " ++ (decimal fault.line ++ (codes ": " ++ reason_bytes fault.reason))

abbrev pub error_bytes : ReadError → List ℕ
error_bytes (error.Fault fault) = fault_bytes fault
error_bytes error.OutOfMemory = codes "out of memory"
