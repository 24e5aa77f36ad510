-- The user, why they are refused, and the end of the line.
use Rattle.std.proofs.Common.{◌++◌, codes, decimal, sym, subst, append_assoc}
use Rattle.output.specs.Output.{Writes}
use Rattle.response_text.proofs.reasons.write_no_request.Goals as goal

pub returns : goal.returns
returns g c =
    subst (Writes c.args.out.now c.write.new.self c.write.result)
    (sym (append_assoc (decimal c.args.user) (codes ": ") (codes "no deed at " ++ decimal c.args.place ++ codes "\n"))) c.write.ensures
