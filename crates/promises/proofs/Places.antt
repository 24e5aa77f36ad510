-- What a request changes lies in one place of memory, and nothing that follows the policy's part is changed.
use Rattle.std.proofs.Common.{◌≡◌, ℕ, ◌+◌, ◌-◌, ◌≤◌, true, false, List, [], ◌∷◌, length, take, drop, replicate, sym, refl, ap, ◌∙◌, inl, inr, arith}
use Rattle.compartment.specs.Parts.{limit}
use Rattle.model.specs.Effects.{absence}
use Rattle.model.specs.Model.{State, empty, who, asks, is_user, step}
use Rattle.model.proofs.Interference.{absent}
use Rattle.policy.specs.Access.{rules_of, place_in, memory_length}
use Rattle.policy.specs.Layout.{size}
use Rattle.policy.specs.declared.Policy.{Policy}
use Rattle.policy.proofs.Proved.{compartments_apart, written_there}
use Rattle.request.specs.declared.Request.{Request}
use Rattle.std.proofs.lemmas.List.{drop-drop, drop_at, length-append, length-replicate, length-drop}
use Rattle.std.proofs.lemmas.Slice.{take-put_mid_below, drop-put_mid}
use Rattle.std.proofs.lemmas.Bool.{cases_Bool, ltb-true, le-ltb}
use Rattle.store.specs.Calls.{open_result}
use Rattle.store.specs.Memory.{end}
use Rattle.store.specs.Served.{CallResult, serve_result, reply_of}
use Rattle.store.specs.Simulation.{Holds, FitsTypes, cache_start}
use Rattle.store.specs.declared.reply.Reply.{Reply}
use Rattle.store.proofs.Changing.{fits}
use Rattle.store.proofs.Following.{open_holds}
use Rattle.store.proofs.Parts.{kept_length}
use Rattle.store.proofs.Refused.{refusal_leaves}
use Rattle.store.proofs.Replaced.{Replaced, own_there, change_replaced, query_replaced}
use Rattle.store.proofs.Serving.{serve_follows}
use Rattle.promises.specs.Effects.{ButFor, OnePlace, RestStays}
use Rattle.promises.specs.Traces.{ServeCall, AllFit, call_of, memory_left, memory_after}
use Rattle.promises.proofs.Contents.{state, reached}

but_for : (at n : ℕ) (memory left : List ℕ) → at + n ≤ length memory → Replaced at n memory left → ButFor at n memory left
but_for at n memory left within o = record {
  long = ap length o.is ∙ kept_length memory o.new at n within o.wide;
  before = ap (take at) o.is ∙ take-put_mid_below at n memory o.new at (omega arith) (omega arith);
  after = ap (drop (at + n)) o.is ∙ drop-put_mid at n memory o.new (at + n) (omega arith) (omega arith) o.wide;
}

unchanged : (at n : ℕ) (memory left : List ℕ) → left ≡ memory → ButFor at n memory left
unchanged at n memory left e = record { long = ap length e; before = ap (take at) e; after = ap (drop (at + n)) e }

module _ (p : Policy) (s : State) (memory : List ℕ) (h : Holds p s memory) where
  -- an unknown user changes nothing
  pub absent_leaves : (r : Request) (lent : List ℕ) → FitsTypes r → is_user (rules_of p) (who r) ≡ false → (serve_result p memory lent r).memory ≡ memory
  absent_leaves r lent b e =
      ap (λ (result : CallResult Reply). result.memory)
      (refusal_leaves p memory lent r (absence r) ((serve_follows p s memory lent r h b).told ∙ ap reply_of (absent (rules_of p) limit s r (length lent) e)))

  abbrev OwnPart : ℕ → List ℕ → Type 0
  OwnPart u left = ButFor (place_in p ((rules_of p).writes u)).start (size (place_in p ((rules_of p).writes u)).capacity) memory left

  -- a part is as wide as its compartment's size
  change_in_place : (r : Request) (lent : List ℕ) → FitsTypes r → is_user (rules_of p) (who r) ≡ true → asks r ≡ false →
      OwnPart (who r) (serve_result p memory lent r).memory
  change_in_place r lent b t a =
      let q = place_in p ((rules_of p).writes (who r)) in
      let wide : end q - q.start ≡ size q.capacity = omega arith in
      rw wide at (but_for q.start (end q - q.start) memory _ (fits p s memory h _ (own_there p s memory h (who r) t)) (change_replaced p s memory h r lent b t a))

  ask_in_place : (r : Request) (lent : List ℕ) → is_user (rules_of p) (who r) ≡ true → asks r ≡ true →
      ButFor (cache_start p (who r)) 192 memory (serve_result p memory lent r).memory
  ask_in_place r lent t a =
      let l = ltb-true (who r) p.users t in
      let within : cache_start p (who r) + 192 ≤ length memory = omega (arith, h.long) in
      but_for (cache_start p (who r)) 192 memory _ within (query_replaced p s memory h r lent t a)

  in_place : (r : Request) (lent : List ℕ) → FitsTypes r →
      (asks r ≡ false → OwnPart (who r) (serve_result p memory lent r).memory)
      × (asks r ≡ true → ButFor (cache_start p (who r)) 192 memory (serve_result p memory lent r).memory)
  in_place r lent b = elim (cases_Bool (is_user (rules_of p) (who r))) [
    | inl t ↦ (λ a. change_in_place r lent b t a, λ a. ask_in_place r lent t a)
    | inr t ↦ let e = absent_leaves r lent b t in (λ a. unchanged _ _ memory _ e, λ a. unchanged _ _ memory _ e)
  ]

  -- so what follows stays
  rest_is : (at n : ℕ) (left : List ℕ) → at + n ≤ memory_length p → ButFor at n memory left → (length left ≡ length memory) × (drop (memory_length p) left ≡ drop (memory_length p) memory)
  rest_is at n left within o =
      let rest : at + n + (memory_length p - (at + n)) ≡ memory_length p = omega arith in (
        o.long,
        rw rest at (sym (drop-drop (memory_length p - (at + n)) (at + n) left) ∙ (ap (drop (memory_length p - (at + n))) o.after ∙ drop-drop (memory_length p - (at + n)) (at + n) memory)),
      )

  rest_left : (r : Request) (lent : List ℕ) → FitsTypes r →
      (length (serve_result p memory lent r).memory ≡ length memory) × (drop (memory_length p) (serve_result p memory lent r).memory ≡ drop (memory_length p) memory)
  rest_left r lent b = elim (cases_Bool (is_user (rules_of p) (who r))) [
    | inr t ↦ let e = absent_leaves r lent b t in (ap length e, ap (drop (memory_length p)) e)
    | inl t ↦
        let l = ltb-true (who r) p.users t in
        let c = (rules_of p).writes (who r) in
        elim (cases_Bool (asks r)) [
          | inl a ↦ rest_is (cache_start p (who r)) 192 (serve_result p memory lent r).memory (omega arith) (ask_in_place r lent t a)
          | inr a ↦
              let w = (compartments_apart p c (written_there p (who r) l)).0 in
              rest_is (place_in p c).start (size (place_in p c).capacity) (serve_result p memory lent r).memory (omega arith) (change_in_place r lent b t a)
        ]
  ]

pub one_place : OnePlace
one_place p memory r lent k b = in_place p (state p memory k) memory (reached p memory k) r lent b

rest_after : (p : Policy) (s : State) (memory : List ℕ) (calls : List ServeCall) → Holds p s memory → AllFit calls →
    (length (memory_after p memory calls) ≡ length memory) × (drop (memory_length p) (memory_after p memory calls) ≡ drop (memory_length p) memory)
rest_after p s memory [] h a = (refl, refl)
rest_after p s memory (call ∷ calls) h a =
    let f = serve_follows p s memory call.row call.request h a.0 in
    let one = rest_left p s memory h call.request call.row a.0 in
    let rest = rest_after p (step (rules_of p) limit s (call_of call)) (memory_left p memory call) calls f.holds a.1 in
    (rest.0 ∙ one.0, rest.1 ∙ one.1)

opened_rest : (p : Policy) (memory : List ℕ) → memory_length p ≤ length memory →
    (length (open_result p memory).memory ≡ length memory) × (drop (memory_length p) (open_result p memory).memory ≡ drop (memory_length p) memory)
opened_rest p memory h =
    let all = memory_length p in
    rw (le-ltb (length memory) all h)
    (simp (length-append, length-replicate, length-drop) (omega arith), drop_at (replicate all 0) (drop all memory) all (length-replicate all 0))

pub rest_stays : RestStays
rest_stays p memory calls h a =
    let rest = rest_after p empty (open_result p memory).memory calls (open_holds p memory h) a in
    let start = opened_rest p memory h in
    (rest.0 ∙ start.0, rest.1 ∙ start.1)
