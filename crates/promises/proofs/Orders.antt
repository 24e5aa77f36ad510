-- Changes in two places that lie apart may be made in either order.
use Rattle.std.proofs.Common.{◌≡◌, ℕ, ◌+◌, ◌-◌, ◌≤◌, true, ◌⊎◌, List, [], ◌∷◌, ◌++◌, length, take, drop, sym, refl, ap, ◌∙◌, inl, inr, arith}
use borrow.Rule.Slice.PartMut.{put_mid}
use Rattle.compartment.specs.Parts.{limit}
use Rattle.model.specs.Effects.{plain}
use Rattle.model.specs.Model.{State, Response, who, is_user, response, step}
use Rattle.model.proofs.Changes as changes
use Rattle.policy.specs.Access.{rules_of, place_in}
use Rattle.policy.specs.declared.Policy.{Policy}
use Rattle.policy.specs.declared.place.Place.{Place}
use Rattle.std.proofs.lemmas.List.{take-append-drop, drop-append-le, drop-take, length-take-le}
use Rattle.std.proofs.lemmas.Slice.{take-put_mid_below, take-put_mid, drop-put_mid}
use Rattle.std.proofs.lemmas.Bool.{cases_Bool}
use Rattle.store.specs.Memory.{end, part, with_part}
use Rattle.store.specs.Simulation.{Holds, FitsTypes}
use Rattle.store.proofs.Changing.{apart, fits}
use Rattle.store.proofs.Parts.{kept_length, part_apart}
use Rattle.store.proofs.Replaced.{own_there, effect, plain_leaves, effect_wide}
use Rattle.store.proofs.Serving.{serve_follows}
use Rattle.promises.specs.Effects.{EitherOrder}
use Rattle.promises.specs.Example.{observation_of}
use Rattle.promises.specs.Traces.{ServeCall, call_of, observation, memory_left, memory_after}
use Rattle.promises.proofs.Contents.{state, reached}
use Rattle.promises.proofs.Places.{absent_leaves}
use Rattle.promises.proofs.Proved.{observes}

-- two lists with the same front and the same rest
halves : (k : ℕ) (xs ys : List ℕ) → take k xs ≡ take k ys → drop k xs ≡ drop k ys → xs ≡ ys
halves k xs ys front rest = sym (take-append-drop k xs) ∙ (rw (front, rest) (take-append-drop k ys))

-- n numbers from a on, and m from b on, where these follow the first
module _ (xs ys zs : List ℕ) (a n b m : ℕ) (follows : a + n ≤ b) (within : b + m ≤ length xs) (wide : length ys ≡ n) (broad : length zs ≡ m) where
  abbrev first : List ℕ
  first = put_mid a n xs ys

  abbrev second : List ℕ
  second = put_mid b m xs zs

  first_long : length first ≡ length xs
  first_long = kept_length xs ys a n (omega arith) wide

  second_long : length second ≡ length xs
  second_long = kept_length xs zs b m within broad

  -- what follows the first is changed the same
  rest_of : (us : List ℕ) → length us ≡ length xs → drop (a + n) (put_mid b m us zs) ≡ take (b - (a + n)) (drop (a + n) us) ++ (zs ++ drop m (drop b us))
  rest_of us l =
      let k = a + n in
      let at : k + (b - k) ≡ b = omega arith in
      let front : drop k (take b us) ≡ take (b - k) (drop k us) = rw at at (drop-take k (b - k) us) in
      drop-append-le k (take b us) (zs ++ drop m (drop b us)) (rw (length-take-le b us (omega arith)) follows)
      ∙ ap (λ (ls : List ℕ). ls ++ (zs ++ drop m (drop b us))) front

  both_ways_round : put_mid b m first zs ≡ put_mid a n second ys
  both_ways_round =
      let k = a + n in
      let l = first_long in
      let r = second_long in
      let front : take k (put_mid b m first zs) ≡ take k (put_mid a n second ys) =
      take-put_mid_below b m first zs k follows (omega arith)
      ∙ (take-put_mid a n xs ys k (omega arith) (omega arith)
      ∙ sym (take-put_mid a n second ys k (omega arith) (omega arith) ∙ ap (λ (ls : List ℕ). ls ++ ys) (take-put_mid_below b m xs zs a (omega arith) (omega arith)))) in
      let rest : drop k (put_mid b m first zs) ≡ drop k (put_mid a n second ys) =
      rest_of first l
      ∙ (rw (drop-put_mid a n xs ys k (omega arith) (omega arith) wide, drop-put_mid a n xs ys b follows (omega arith) wide) (sym (rest_of xs refl))
      ∙ sym (drop-put_mid a n second ys k (omega arith) (omega arith) wide)) in
      halves k (put_mid b m first zs) (put_mid a n second ys) front rest

-- one call after another, by the parts before both
module _ (p : Policy) (s : State) (memory : List ℕ) (h : Holds p s memory) (x y : ServeCall) (bx : FitsTypes x.request) (by : FitsTypes y.request)
    (px : plain x.request ≡ true) (py : plain y.request ≡ true) (ne : (rules_of p).writes (who x.request) ≡ (rules_of p).writes (who y.request) → ⊥)
    (tx : is_user (rules_of p) (who x.request) ≡ true) (ty : is_user (rules_of p) (who y.request) ≡ true) where
  abbrev x_place : Place
  x_place = place_in p ((rules_of p).writes (who x.request))

  abbrev y_place : Place
  y_place = place_in p ((rules_of p).writes (who y.request))

  abbrev x_new : List ℕ
  x_new = effect p x.request (part x_place memory)

  abbrev y_new : List ℕ
  y_new = effect p y.request (part y_place memory)

  x_wide : length x_new ≡ end x_place - x_place.start
  x_wide = effect_wide p s memory h x.request x.row px bx tx

  y_wide : length y_new ≡ end y_place - y_place.start
  y_wide = effect_wide p s memory h y.request y.row py by ty

  within_x : x_place.start + (end x_place - x_place.start) ≤ length memory
  within_x = fits p s memory h _ (own_there p s memory h (who x.request) tx)

  within_y : y_place.start + (end y_place - y_place.start) ≤ length memory
  within_y = fits p s memory h _ (own_there p s memory h (who y.request) ty)

  lie_apart : (y_place.start + (end y_place - y_place.start) ≤ x_place.start) ⊎ (x_place.start + (end x_place - x_place.start) ≤ y_place.start)
  lie_apart = apart p s memory h _ (own_there p s memory h (who x.request) tx) _ (own_there p s memory h (who y.request) ty) (λ e. ne (sym e))

  x_then_y : memory_after p memory (x ∷ y ∷ []) ≡ with_part y_place y_new (with_part x_place x_new memory)
  x_then_y =
      let f = serve_follows p s memory x.row x.request h bx in
      let one = plain_leaves p s memory h x.request x.row px bx tx in
      let two = plain_leaves p (step (rules_of p) limit s (call_of x)) (memory_left p memory x) f.holds y.request y.row py by ty in
      let same = part_apart memory x_new x_place.start (end x_place - x_place.start) within_x x_wide y_place.start (end y_place - y_place.start) lie_apart in
      two ∙ (ap (λ (m : List ℕ). with_part y_place (effect p y.request (part y_place m)) m) one
      ∙ ap (λ (new : List ℕ). with_part y_place (effect p y.request new) (with_part x_place x_new memory)) same)

either : (p : Policy) (s : State) (memory : List ℕ) (h : Holds p s memory) (x y : ServeCall) → FitsTypes x.request → FitsTypes y.request →
    plain x.request ≡ true → plain y.request ≡ true → ((rules_of p).writes (who x.request) ≡ (rules_of p).writes (who y.request) → ⊥) →
    memory_after p memory (x ∷ y ∷ []) ≡ memory_after p memory (y ∷ x ∷ [])
either p s memory h x y bx by px py ne =
    let fx = serve_follows p s memory x.row x.request h bx in
    let fy = serve_follows p s memory y.row y.request h by in
    elim (cases_Bool (is_user (rules_of p) (who x.request))) [
      | inr tx ↦
          ap (λ (m : List ℕ). memory_left p m y) (absent_leaves p s memory h x.request x.row bx tx)
          ∙ sym (absent_leaves p _ (memory_left p memory y) fy.holds x.request x.row bx tx)
      | inl tx ↦ elim (cases_Bool (is_user (rules_of p) (who y.request))) [
        | inr ty ↦
            absent_leaves p _ (memory_left p memory x) fx.holds y.request y.row by ty
            ∙ sym (ap (λ (m : List ℕ). memory_left p m x) (absent_leaves p s memory h y.request y.row by ty))
        | inl ty ↦
            let back = λ (e : (rules_of p).writes (who y.request) ≡ (rules_of p).writes (who x.request)). ne (sym e) in
            let qx = x_place p s memory h x y bx by px py ne tx ty in
            let qy = y_place p s memory h x y bx by px py ne tx ty in
            let a = x_new p s memory h x y bx by px py ne tx ty in
            let b = y_new p s memory h x y bx by px py ne tx ty in
            let wa = x_wide p s memory h x y bx by px py ne tx ty in
            let wb = y_wide p s memory h x y bx by px py ne tx ty in
            let round : with_part qy b (with_part qx a memory) ≡ with_part qx a (with_part qy b memory) =
            elim (lie_apart p s memory h x y bx by px py ne tx ty) [
              | inl l ↦ sym (both_ways_round memory b a qy.start (end qy - qy.start) qx.start (end qx - qx.start) l (within_x p s memory h x y bx by px py ne tx ty) wb wa)
              | inr l ↦ both_ways_round memory a b qx.start (end qx - qx.start) qy.start (end qy - qy.start) l (within_y p s memory h x y bx by px py ne tx ty) wa wb
            ] in
            x_then_y p s memory h x y bx by px py ne tx ty ∙ (round ∙ sym (x_then_y p s memory h y x by bx py px back ty tx))
      ]
    ]

-- what is observed of a change goes by the model's response alone
same_observation : (p : Policy) (s t : State) (memory other : List ℕ) (call : ServeCall) → Holds p s memory → Holds p t other → FitsTypes call.request →
    response (rules_of p) limit s (call_of call) ≡ response (rules_of p) limit t (call_of call) →
    observation p memory call ≡ observation p other call
same_observation p s t memory other call h k b e =
    observes p s memory call (serve_follows p s memory call.row call.request h b)
    ∙ (ap (λ (r : Response). observation_of r call.row) e
    ∙ sym (observes p t other call (serve_follows p t other call.row call.request k b)))

pub either_order : EitherOrder
either_order p memory x y r fit px py ne =
    let s = state p memory r in
    let h = reached p memory r in
    let bx = fit.0 in
    let by = fit.1.0 in
    let fx = serve_follows p s memory x.row x.request h bx in
    let fy = serve_follows p s memory y.row y.request h by in
    let m = changes.either_order (rules_of p) limit s (call_of x) (call_of y) px py ne in (
      either p s memory h x y bx by px py ne,
      same_observation p (step (rules_of p) limit s (call_of x)) s (memory_left p memory x) memory y fx.holds h by m.1,
      same_observation p (step (rules_of p) limit s (call_of y)) s (memory_left p memory y) memory x fy.holds h bx m.2,
    )
