-- The lines of a text, one on.
use Rattle.std.proofs.Common.{◌≡◌, ℕ, ◌+◌, ◌<◌, List, length, get_or, drop, Ok, Result, sym, ap, ◌∙◌, arith, Bor, Bool, false, ◌==◌}
use Rattle.std.proofs.lemmas.List.{at_drop_more, at_drop_all}
use Rattle.std.proofs.lemmas.List.FromFn.{get_or-enumerate_from, length-enumerate_from}
use Rattle.std.proofs.lemmas.Iterator.{YieldsList}
use Rattle.std.proofs.lemmas.Iterator.Consumers.{YieldsList-at, YieldsList-from_enumerate}
use Rattle.std.proofs.lemmas.Iterator.Splits.{YieldsList-from_slice_split}
use Rattle.std.specs.Fn.{CalledAt}
use Rattle.std.specs.Iterator.Adapters.{enumerate_source, enumerate_count, enumerate_steps}
use Rattle.std.specs.List.{enumerate_from}
use Rattle.std.specs.Slice.Iter.{split_rest, split_done, split_callee, split_steps}
use Rattle.std.specs.declared.iter.Enumerate.{Enumerate}
use Rattle.std.specs.declared.slice.Split.{Split}
use denote.Param.Members.{Mut}
use Rattle.trace_text.specs.Words.{lines}
use Rattle.trace_text.specs.Lines.{and_then}
use Rattle.trace_text.specs.Said.{FailsAs, Content, at_line, line_said, lines_said, check_end}
use Rattle.trace_text.specs.declared.fault.Fault.{Fault}
use Rattle.trace_text.specs.declared.fault.ReadError.{ReadError}
use Rattle.trace_text.specs.declared.fault.ReadError.TheVariants as error

-- the lines of a text, each with its place, come one by one
pub lines_yielded : {F : Type 0} {t u : Enumerate (Split ℕ F)} {s : Split ℕ F} {f : F} (g : Mut F (Bor ℕ × Unit {0}) Bool) (text : List ℕ) →
    u ≡ t → enumerate_source t ≡ s → enumerate_count t ≡ 0 → split_rest s ≡ text → split_done s ≡ false → split_callee s ≡ f →
    ((x : ℕ) (b : Bool) (q : F) → CalledAt g f x b q → (q ≡ f) × (b ≡ (x == 10))) →
    YieldsList {B = ℕ × List ℕ} (enumerate_steps (split_steps g)) (λ p. (p.0, p.1.now)) u (enumerate_from 0 (lines text))
lines_yielded g text is source count rest done callee calls =
    YieldsList-at is (YieldsList-from_enumerate (YieldsList-at source (YieldsList-from_slice_split g (λ x. x == 10) text rest done callee calls)) count)

-- an item of `enumerate` is a place, and the line that stands there
module _ (lines : List (List ℕ)) (n i : ℕ) (line : List ℕ)
    (turn : (n < length (enumerate_from 0 lines)) × ◌≡◌ {A = ℕ × List ℕ} (i, line) (get_or (enumerate_from 0 lines) n (i, line))) where
  there : n < length lines
  there = omega (arith, length-enumerate_from 0 lines, turn.0)

  pair : ◌≡◌ {A = ℕ × List ℕ} (i, line) (n, get_or lines n line)
  pair = turn.1 ∙ get_or-enumerate_from 0 lines n (i, line) there ∙ ap (λ (m : ℕ). (m, get_or lines n line)) (omega arith)

  pub place_is : i + 1 ≡ n + 1
  place_is = ap (λ (p : ℕ × List ℕ). p.0 + 1) pair

  -- what the lines from there on say
  said_on : (said : Content) → and_then (at_line (i + 1) (line_said said line)) (λ more. lines_said (n + 1 + 1) more (drop (n + 1) lines)) ≡ lines_said (n + 1) said (drop n lines)
  said_on said =
      ap (λ (p : ℕ × List ℕ). and_then (at_line (p.0 + 1) (line_said said p.1)) (λ more. lines_said (n + 1 + 1) more (drop (n + 1) lines))) pair
      ∙ sym (at_drop_more (λ ls. lines_said (n + 1) said ls) lines n line there)

  pub line_read : (said more : Content) → Ok more ≡ at_line (i + 1) (line_said said line) →
      lines_said (n + 1 + 1) more (drop (n + 1) lines) ≡ lines_said (n + 1) said (drop n lines)
  line_read said more e = ap (λ (r : Result Content Fault). and_then r (λ s. lines_said (n + 1 + 1) s (drop (n + 1) lines))) e ∙ said_on said

  pub line_refused : (e : ReadError) (said : Content) (all : Result Content Fault) →
      FailsAs e (at_line (i + 1) (line_said said line)) →
      lines_said (n + 1) said (drop n lines) ≡ all → FailsAs e all
  line_refused (error.Fault fault) said all told is = ap (λ (r : Result Content Fault). and_then r (λ more. lines_said (n + 1 + 1) more (drop (n + 1) lines))) told ∙ said_on said ∙ is
  line_refused error.OutOfMemory said all told is = tt

-- behind the last line
pub said_all : (lines : List (List ℕ)) (n last : ℕ) (said : Content) → last ≡ n →
    n ≡ length (enumerate_from 0 lines) → at_line last (check_end said) ≡ lines_said (n + 1) said (drop n lines)
said_all lines n last said counted end =
    ap (λ (k : ℕ). at_line k (check_end said)) (omega (arith, counted))
    ∙ sym (at_drop_all (λ ls. lines_said (n + 1) said ls) lines n (omega (arith, length-enumerate_from 0 lines)))
