-- What is listed behind a compartment, and where edges lead.
use Rattle.std.proofs.Common.{◌≡◌, ℕ, zero, suc, ◌+◌, ◌<◌, ◌≤◌, Bool, true, not, eqb, filter, refl, inl, inr, arith}
use Rattle.std.proofs.lemmas.Bool.{cases_Bool, and_parts, and_from, or_cases, not-true, eqb-true, eq-eqb, ne_eqb, eqb-false, cases_eq}
use Rattle.std.specs.List.{range_with_len}
use Rattle.policy.specs.Rules.{has, flows}
use Rattle.policy.proofs.Proved.{flows_both_ways}
use Rattle.policy_text.specs.Laws.{FlowsShown}
use Rattle.policy_text.specs.Shown.{shows_flow}
use Rattle.policy_text.specs.Forms.{table, graph}

-- of a count, what passes a test is kept
kept_has : (test : ℕ → Bool) (i n b : ℕ) → has (filter test (range_with_len i n)) b ≡ true → (i ≤ b) × (b < i + n) × (test b ≡ true)
kept_has test i zero b e = absurd cc
kept_has test i (suc n) b e = elim (cases_Bool (test i)) [
  | inl t ↦ elim (or_cases (eqb i b) (has (filter test (range_with_len (i + 1) n)) b) (rw t at e)) [
    | inl s ↦ let same = eqb-true i b s in (omega arith, omega arith, rw (← same) t)
    | inr s ↦ let r = kept_has test (i + 1) n b s in (omega (arith, r.0), omega (arith, r.1), r.2)
  ]
  | inr f ↦ let r = kept_has test (i + 1) n b (rw f at e) in (omega (arith, r.0), omega (arith, r.1), r.2)
]

has_kept : (test : ℕ → Bool) (i n b : ℕ) → i ≤ b → b < i + n → test b ≡ true → has (filter test (range_with_len i n)) b ≡ true
has_kept test i zero b l h t = absurd (omega arith)
has_kept test i (suc n) b l h t = elim (cases_eq i b) [
  | inl s ↦ let here : test i ≡ true = rw s t in rw (here, eq-eqb i b s) refl
  | inr d ↦
      let on = has_kept test (i + 1) n b (omega (arith, d)) (omega arith) t in
      elim (cases_Bool (test i)) [ inl p ↦ rw (p, ne_eqb i b d) on | inr f ↦ rw f on ]
]

pub flows_shown_stands : FlowsShown
flows_shown_stands p n a b = (
  λ e. let k = kept_has (shows_flow table p a) 0 n b e in (omega (arith, k.1), (flows_both_ways p a b).0 k.2),
  λ h. has_kept (shows_flow table p a) 0 n b (omega arith) (omega (arith, h.0)) ((flows_both_ways p a b).1 h.1),
  λ e.
      let k = kept_has (shows_flow graph p a) 0 n b e in
      let parts = and_parts (not (eqb a b)) (flows p a b) k.2 in
      (omega (arith, k.1), eqb-false a b (not-true (eqb a b) parts.0), (flows_both_ways p a b).0 parts.1),
  λ h.
      let apart : not (eqb a b) ≡ true = rw (ne_eqb a b h.1) refl in
      has_kept (shows_flow graph p a) 0 n b (omega arith) (omega (arith, h.0)) (and_from (not (eqb a b)) (flows p a b) apart ((flows_both_ways p a b).1 h.2)),
)
