-- The reader's answer from what was read of the text. Assumes nothing.
use mathlib.Core.Path.{◌≡◌, sym, ap, ap₂, ◌∙◌, subst}
use mathlib.Core.Bool.{Bool, true, false, cond, not}
use mathlib.Core.List.{List, ◌++◌}
use Prim.Native.Nat.{ℕ, ◌*◌, ◌≤◌, ◌<◌}
use native.Mathlib.Omega.{arith}
use lib.ListN.{length, drop}
use lib.Seq.{sets}
use lib.Dec.{ltb, leb}
use borrow.Author.Tests.{not-true, not-false, leb-true, lt-ltb, le-ltb}
use Rattle.tables.proofs.Tests.{and_right, if_true, if_false}
use Rattle.stores.proofs.Stores.{sets_front}
use Rattle.net.specs.Table.{transition_size}
use Rattle.pnml_shape.specs.Theorem.{reading, Right}
use Rattle.pnml_shape.proofs.Exact.{exact}
use Rattle.pnml_net.specs.Nets.{records_of}
use Rattle.std.specs.Prelude.{Result, Ok, Err}
use Rattle.std.specs.Result.{IsErrAnd}
use Rattle.std.proofs.lemmas.Result.{err_from_is_err_and}
use Rattle.pnml_scan.specs.declared.Left.{Left}
use Rattle.pnml_scan.specs.Serving.{Opened}
use Rattle.pnml_turn.specs.declared.Reading.{Reading}
use Rattle.pnml_turn.specs.declared.Stopped.{Stopped}
use Rattle.pnml_turn.specs.Serving.{ReadAll, ReadPart}
use Rattle.pnml_records.specs.Records.{records_by}
use Rattle.pnml_records.proofs.Records.{records-by}
use Rattle.pnml_records.proofs.Stores.{by_length}
use Rattle.pnml_read.specs.declared.Found.{Found}
use Rattle.pnml_read.specs.declared.ReadRefusal.{ReadRefusal}
use Rattle.pnml_read.specs.declared.ReadRefusal.TheVariants.{Shape, Places, Transitions, Short}
use Rattle.pnml_read.specs.Answer.{Answer, refuse, few, granted, drawn_answer, read_answer, number_of, place_of, found_of, answer_of}

-- the outcome is right for the text
pub right : (t : List ℕ) → Right t (reading t)
right t = exact.right t

-- what a `?` returns where the text leaves the shape at an offset
pub exit : (P : Result Found ReadRefusal → Type 0) (r : Result Found ReadRefusal) (k : ℕ) → IsErrAnd r (λ x. x ≡ Shape k) → P (Err (Shape k)) → P r
exit P r k h p = let x = err_from_is_err_and r h in subst P (sym (x.1 ∙ ap Err x.2)) p

-- 13 in the opening
pub opening_answer : (t : List ℕ) (e : Left) → Opened t (Err e) → (room : List ℕ) → answer_of (Err (Shape e.at)) room ≡ read_answer (reading t) room
unfolding reading read_answer number_of place_of found_of
opening_answer t e h room = sym (ap (λ o. read_answer o room) h.same)

pub few_most : (n : ℕ) (b : Bool) → b ≡ few n → not b ≡ false → n ≤ 64
unfolding few
few_most n b e h = leb-true n 64 (and_right (leb 1 n) (leb n 64) (sym e ∙ not-false b h))

-- answers that agree in what they found
pub same_answer : {p q m n k l : ℕ} {a b : List ℕ} → p ≡ q → m ≡ n → k ≡ l → a ≡ b
    → ◌≡◌ {A = Answer}
    (record { number = 0; place = 0; places = p; marking = m; length = k; room = a })
    (record { number = 0; place = 0; places = q; marking = n; length = l; room = b })
same_answer e f g h = cc

-- 13
pub left_answer : (t : List ℕ) (e : Stopped) (pre post action : List ℕ)
    → ReadPart t e.at e.before.places e.before.transitions e.before.marking pre post action → (room : List ℕ) → answer_of (Err (Shape e.at)) room ≡ read_answer (reading t) room
unfolding read_answer number_of place_of found_of
left_answer t e pre post action h room = sym (ap (λ o. read_answer o room) h.same)

module _ (t : List ℕ) (r : Reading) (pre post action : List ℕ) (h : ReadAll t r.places r.transitions r.marking pre post action) (room : List ℕ) where
  -- the text draws
  drawn-answer : read_answer (reading t) room ≡ drawn_answer h.drawing room
  unfolding read_answer
  drawn-answer = ap (λ o. read_answer o room) h.same

  few_places : (b : Bool) → b ≡ few r.places → few (length h.drawing.marks) ≡ b
  few_places b e = ap few h.places ∙ sym e

  few_transitions : (b : Bool) → b ≡ few r.transitions → few (length h.drawing.actions) ≡ b
  few_transitions b e = ap few h.transitions ∙ sym e

  -- 1
  pub places_answer : (b : Bool) → b ≡ few r.places → not b ≡ true → answer_of (Err Places) room ≡ read_answer (reading t) room
  unfolding drawn_answer number_of place_of found_of
  places_answer b f n = sym (drawn-answer ∙ if_false (few (length h.drawing.marks)) _ _ (few_places b f ∙ not-true b n))

  module _ (b : Bool) (f : b ≡ few r.places) (n : not b ≡ false) where
    drawn_places : read_answer (reading t) room
        ≡ cond (few (length h.drawing.actions))
        (cond (ltb (length room) (length h.drawing.actions * transition_size)) (refuse 12 0 room) (granted h.drawing room)) (refuse 2 0 room)
    unfolding drawn_answer
    drawn_places = drawn-answer ∙ if_true (few (length h.drawing.marks)) _ _ (few_places b f ∙ not-false b n)

    -- 2
    pub transitions_answer : (c : Bool) → c ≡ few r.transitions → not c ≡ true → answer_of (Err Transitions) room ≡ read_answer (reading t) room
    unfolding number_of place_of found_of
    transitions_answer c g m = sym (drawn_places ∙ if_false (few (length h.drawing.actions)) _ _ (few_transitions c g ∙ not-true c m))

    module _ (c : Bool) (g : c ≡ few r.transitions) (m : not c ≡ false) where
      drawn-both : read_answer (reading t) room
          ≡ cond (ltb (length room) (length h.drawing.actions * transition_size)) (refuse 12 0 room) (granted h.drawing room)
      drawn-both = drawn_places ∙ if_true (few (length h.drawing.actions)) _ _ (few_transitions c g ∙ not-false c m)

      -- 12
      pub short-answer : length room < r.transitions * transition_size → answer_of (Err Short) room ≡ read_answer (reading t) room
      unfolding number_of place_of found_of
      short-answer l =
          sym
          (drawn-both
          ∙ if_true (ltb (length room) (length h.drawing.actions * transition_size)) _ _
          (lt-ltb (length room) (length h.drawing.actions * transition_size) (let z = h.transitions in omega arith)))

      -- the tables' records are the drawing's
      same-records : records_by pre post action r.transitions ≡ records_of h.drawing.arcs h.drawing.actions
      same-records =
          let p = few_most r.places b f n in
          let q = few_most r.transitions c g m in
          let y = h.places in
          let z = h.transitions in
          ap (records_by pre post action) (sym h.transitions)
          ∙ records-by h.drawing.arcs h.drawing.actions pre post action
          (λ t l. (h.holds.pres (omega arith) t (omega arith), h.holds.posts (omega arith) t (omega arith)))
          (λ t l. h.holds.actions t (omega arith) l)

      -- granted
      pub granted-answer : r.transitions * transition_size ≤ length room → (after : List ℕ)
          → after ≡ sets room 0 (records_by pre post action r.transitions)
          → answer_of (Ok (record { places = r.places; marking = r.marking; length = r.transitions * transition_size })) after
          ≡ read_answer (reading t) room
      unfolding granted number_of place_of found_of
      granted-answer l after i =
          let p = few_most r.places b f n in
          let y = h.places in
          let size = by_length pre post action r.transitions in
          same_answer (sym h.places) (h.holds.marks (omega arith)) (sym (ap (λ (k : ℕ). k * transition_size) h.transitions))
          (i ∙ sets_front room (records_by pre post action r.transitions) (omega arith)
          ∙ ap₂ (λ (k : List ℕ) (j : ℕ). k ++ drop j room) same-records (size ∙ sym (ap (λ (k : ℕ). k * transition_size) h.transitions)))
          ∙ sym
          (drawn-both
          ∙ if_false (ltb (length room) (length h.drawing.actions * transition_size)) _ _
          (le-ltb (length room) (length h.drawing.actions * transition_size) (let z = h.transitions in omega arith)))
