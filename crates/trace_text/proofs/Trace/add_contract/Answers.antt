-- The four parts that are pushed are the numbers of the contract.
use Rattle.std.proofs.Common.{◌≡◌, ℕ, List, [], ◌∷◌, ◌++◌, ◌-◌, length, take, drop, replicate, vec_items, sym, ap, ◌∙◌, append-nil, append_assoc, refl, arith}
use Rattle.std.proofs.lemmas.List.{drop-replicate, length-replicate, take_all}
use Rattle.policy.specs.Views.{view_of}
use Rattle.request.specs.declared.Request.{Request}
use Rattle.trace_text.specs.Said.{Content, view_places}
use Rattle.trace_text.proofs.Trace.add_contract.Goals as goal

said_same : (ns ms : List ℕ) (qs rs : List Request) → ns ≡ ms → qs ≡ rs →
    ◌≡◌ {A = Content} (record { numbers = ns; requests = qs }) (record { numbers = ms; requests = rs })
said_same ns ms qs rs e f = rw (e, f) refl

pushed_twice : (bs cs ds xs ys : List ℕ) → cs ≡ bs ++ xs → ds ≡ cs ++ ys → ds ≡ bs ++ (xs ++ ys)
pushed_twice bs cs ds xs ys e f = f ∙ ap (λ (zs : List ℕ). zs ++ ys) e ∙ append_assoc bs xs ys

-- what lies behind a view is 0
behind : (n : ℕ) → take {A = ℕ} (16 - n) (drop n (replicate 16 0)) ≡ replicate (16 - n) 0
behind n = rw (drop-replicate {X = ℕ} n 16 0) (take_all (16 - n) (replicate (16 - n) 0) (omega (arith, length-replicate {A = ℕ} (16 - n) 0)))

pub returns : goal.returns
returns c =
    let ns : List ℕ = vec_items c.args.self.now.numbers in
    let one : List ℕ = vec_items c.push.new.self in
    let two : List ℕ = vec_items c.extend_from_slice.new.self in
    let three : List ℕ = vec_items c.extend_from_slice-2.new.self in
    let four : List ℕ = vec_items c.push-2.new.self in
    let view : List ℕ = view_of c.args.contract in
    let writes : List ℕ = c.args.contract.writes ∷ [] in
    let zeros : List ℕ = replicate (16 - length view) 0 in
    let is = c.view-view.ensures.value in
    let first : one ≡ ns ++ length view ∷ [] = c.in_ok-push.ensures.items ∙ ap (λ (v : List ℕ). ns ++ length v ∷ []) is in
    let second : two ≡ one ++ view = c.in_ok-extend_from_slice.ensures.items ∙ ap (λ (v : List ℕ). one ++ v) is in
    let third : three ≡ two ++ zeros =
    c.in_ok-extend_from_slice-2.ensures.items ∙ ap (λ (v : List ℕ). two ++ v) (behind (length c.view-view.result.now) ∙ ap (λ (v : List ℕ). replicate (16 - length v) 0) is) in
    let fourth : four ≡ three ++ writes = c.in_ok-push-2.ensures.items ∙ ap (λ (n : ℕ). three ++ n ∷ []) c.writes.ensures in
    let padded_view = pushed_twice one two three view zeros second third in
    said_same four _ (vec_items c.args.self.now.requests) _
    (pushed_twice ns one four (length view ∷ []) (view_places view ++ writes) first (pushed_twice one three four (view_places view) writes padded_view fourth))
    (sym (append-nil (vec_items c.args.self.now.requests)))
