-- What the joint net is worth (document 02, F-8): each half goes on in it as if it stood alone. Assumes nothing.
use Rattle.std.specs.Prelude.{ℕ, ◌+◌, ◌-◌, ◌<◌, ◌≡◌, Bool, true, false, cond, ◌&&◌, List, [], ◌∷◌, map, ltb}
use Rattle.std.proofs.Math.Option.{Option, none, some}
use Rattle.bitset.specs.Sets.{member, within}
use Rattle.net.specs.declared.Net.{Net}
use Rattle.net.specs.Step.{action_of, enabled, fired, conflict}
use Rattle.net.specs.Answer.{no_fault}
use Rattle.net.specs.Sequence.{after}
use Rattle.join.specs.Joint.{Marked, net_by, beside, joint}
use Rattle.join.specs.Answer.{half_fault, join_answer}

-- ---- lists of transitions of the joint net, where the first half has n

-- all are the first half's
unfoldable pub all_first : (n : ℕ) → List ℕ → Bool
all_first n [] = true
all_first n (t ∷ ts) = ltb t n && all_first n ts

-- those of the first half, in their order
unfoldable pub of_first : (n : ℕ) → List ℕ → List ℕ
of_first n [] = []
of_first n (t ∷ ts) = cond (ltb t n) (t ∷ of_first n ts) (of_first n ts)

-- those of the second half, in their order, by their numbers there
unfoldable pub of_second : (n : ℕ) → List ℕ → List ℕ
of_second n [] = []
of_second n (t ∷ ts) = cond (ltb t n) (of_second n ts) ((t - n) ∷ of_second n ts)

-- where each half ends, as a marking of the joint net; none where one of the two is no firing sequence
unfoldable pub both : (places : ℕ) → Option ℕ → Option ℕ → Option ℕ
both places none b = none
both places (some a) none = none
both places (some a) (some b) = some (beside places a b)

-- ---- the joint net

module _ (f s : Marked) where
  -- the halves' nets and the joint one; the first's number of transitions
  abbrev F : Net
  F = net_by f

  abbrev S : Net
  S = net_by s

  abbrev J : Net
  J = net_by (joint f s)

  abbrev n : ℕ
  n = F.transitions

  -- a is a marking of the first half, b is one of the second
  abbrev In-first : ℕ → Type 0
  In-first a = within f.places a ≡ true

  abbrev In-second : ℕ → Type 0
  In-second b = within s.places b ≡ true

  abbrev at : (a b : ℕ) → ℕ
  at a b = beside f.places a b

  pub record SideBySide : Type 0 where
    -- loading finds no fault in it with its marking
    pub loads : half_fault (joint f s) ≡ no_fault
    -- its transitions are those of the first half, then those of the second, with their actions and optional marks
    pub count : J.transitions ≡ n + S.transitions
    pub first_action : (t : ℕ) → t < n → action_of J t ≡ action_of F t
    pub second_action : (u : ℕ) → u < S.transitions → action_of J (n + u) ≡ action_of S u
    pub first_optional : (t : ℕ) → t < n → member J.optional t ≡ member F.optional t
    pub second_optional : (u : ℕ) → u < S.transitions → member J.optional (n + u) ≡ member S.optional u
    -- its markings are the pairs of a marking of the first half and one of the second, place by place
    pub pair : (a b : ℕ) → In-first a → In-second b → within (f.places + s.places) (at a b) ≡ true
    pub parts : (m : ℕ) → within (f.places + s.places) m ≡ true → (a : ℕ) × (b : ℕ) × In-first a × In-second b × (m ≡ at a b)
    pub first_places : (a b k : ℕ) → k < f.places → member (at a b) k ≡ member a k
    pub second_places : (a b k : ℕ) → In-first a → member (at a b) (f.places + k) ≡ member b k
    -- at each pair a transition is enabled exactly where it is in its own half
    pub first_enabled : (a b t : ℕ) → t < n → enabled J (at a b) t ≡ enabled F a t
    pub second_enabled : (a b u : ℕ) → In-first a → enabled J (at a b) (n + u) ≡ enabled S b u
    -- and when fired changes that half as it does there, and no other place
    pub first_fired : (a b t : ℕ) → t < n → fired J (at a b) t ≡ at (fired F a t) b
    pub second_fired : (a b u : ℕ) → u < S.transitions → In-first a → fired J (at a b) (n + u) ≡ at a (fired S b u)
    -- transitions of different halves do not conflict; those of one half conflict as there
    pub apart : (t u : ℕ) → t < n → u < S.transitions → (conflict J t (n + u) ≡ false) × (conflict J (n + u) t ≡ false)
    pub first_conflict : (t u : ℕ) → t < n → u < n → conflict J t u ≡ conflict F t u
    pub second_conflict : (t u : ℕ) → t < S.transitions → u < S.transitions → conflict J (n + t) (n + u) ≡ conflict S t u
    -- a list of transitions of one half is a firing sequence of the joint net exactly where it is one of the half, and ends where it does there
    pub first_after : (a b : ℕ) (ts : List ℕ) → In-first a → all_first n ts ≡ true → after J (at a b) ts ≡ both f.places (after F a ts) (some b)
    pub second_after : (a b : ℕ) (us : List ℕ) → In-first a → after J (at a b) (map (λ u. n + u) us) ≡ both f.places (some a) (after S b us)
    -- and any list is one exactly where what it has of each half is one there
    pub each_after : (a b : ℕ) (ts : List ℕ) → In-first a
        → after J (at a b) ts ≡ both f.places (after F a (of_first n ts)) (after S b (of_second n ts))

-- of every two nets that are joined, whatever room is lent
abbrev pub JoinedStand : Type 0
JoinedStand = (f s : Marked) (room : List ℕ) → (join_answer f s room).found.number ≡ 0 → SideBySide f s
