-- The starred samples ("Sample nets") as rows of one list: what the definitions give, and what document 01 says, by its
-- numbers, or as the bytes of the line that it shows; with the stored set of a walk and the two sets of a firing, as document 02 (F-2, F-7) says them.
-- Assumes nothing.
use Rattle.std.specs.Prelude.{ℕ, ◌≡◌, Bool, cond, List, [], ◌∷◌, ◌++◌, map}
use Rattle.net.specs.Step.{conflict, conflicts}
use Rattle.net.specs.Table.{net_of}
use Rattle.net.specs.Answer.{Answer, firing}
use Rattle.walk.specs.declared.Walk.{Walk}
use Rattle.walk.specs.State.{empty}
use Rattle.walk.specs.Calls.{load_answer, load_walk, fire_answer, fire_walk, read_marking, read_count, read_next}
use Rattle.checker.specs.Outcomes.{check_outcome}
use Rattle.texts.specs.Text.{bytes}
use Rattle.line.specs.Line.{line_of}
use Rattle.sample_nets.specs.Tables.{transition, net_r}
use Rattle.sample_trees.specs.Tables.{formulas_r, ask, tree_r, tree_fails}

pub record Sample : Type 0 where
  pub gives : List ℕ
  pub says : List ℕ

-- a firing's number, record and marking, the places that lack a token and those that are occupied
unfoldable pub fired : Answer → List ℕ
fired a = a.found.number ∷ a.found.place ∷ a.marking ∷ a.missing ∷ a.occupied ∷ []

-- the number, the record and both sets that a walk answers
unfoldable pub told : Answer → List ℕ
told a = a.found.number ∷ a.found.place ∷ a.missing ∷ a.occupied ∷ []

-- what reading a walk gives: the present marking, the count and the stored set
unfoldable pub read_from : Walk → List ℕ
read_from w = read_marking w ∷ read_count w ∷ read_next w ∷ []

-- a walk that has R loaded, with 3 places at marking 3
unfoldable pub walk_r : Walk
unfolding net_r
walk_r = load_walk empty 3 3 net_r

-- the bytes of the line that the program writes for four tables
unfoldable pub written : (ask net formulas tree : List ℕ) → List ℕ
written a net formulas tree = line_of (check_outcome a net formulas tree)

unfoldable pub yes_or_no : Bool → ℕ
yes_or_no b = cond b 1 0

unfoldable pub starred : List Sample
unfolding fired told read_from walk_r written yes_or_no transition net_r ask formulas_r tree_r tree_fails
starred =
    -- 1→2 at 1 gives 2
    record { gives = fired (firing 2 1 (transition 1 2 0) 0); says = 0 ∷ 0 ∷ 2 ∷ 0 ∷ 0 ∷ [] }
    -- 1→2 at 3 is not enabled: place 1 is occupied
    ∷ record { gives = fired (firing 2 3 (transition 1 2 0) 0); says = 41 ∷ 0 ∷ 0 ∷ 0 ∷ 2 ∷ [] }
    -- 1→1 at 1 gives 1
    ∷ record { gives = fired (firing 1 1 (transition 1 1 0) 0); says = 0 ∷ 0 ∷ 1 ∷ 0 ∷ 0 ∷ [] }
    -- 0→0 conflicts only with itself: t0 and t2 beside t1 1→1
    ∷ record { gives = map (conflicts (net_of 1 (transition 0 0 0 ++ transition 1 1 0 ++ transition 0 0 0))) (0 ∷ 2 ∷ []); says = 1 ∷ 4 ∷ [] }
    -- R: t0 and t1 are independent; t1 and t2 conflict
    ∷ record { gives = yes_or_no (conflict (net_of 3 net_r) 0 1) ∷ yes_or_no (conflict (net_of 3 net_r) 1 2) ∷ []; says = 0 ∷ 1 ∷ [] }
    -- fire 0 unloaded: 40; nothing is read after it
    ∷ record { gives = told (fire_answer empty 0) ++ read_from (fire_walk empty 0); says = 40 ∷ 0 ∷ 0 ∷ 0 ∷ 0 ∷ 0 ∷ 0 ∷ [] }
    -- R loaded: marking 3, count 0, set 3
    ∷ record { gives = told (load_answer 3 3 net_r) ++ read_from walk_r; says = 0 ∷ 0 ∷ 0 ∷ 0 ∷ 3 ∷ 0 ∷ 3 ∷ [] }
    -- R: fire 3: 8; the walk as it was
    ∷ record { gives = told (fire_answer walk_r 3) ++ read_from (fire_walk walk_r 3); says = 8 ∷ 0 ∷ 0 ∷ 0 ∷ 3 ∷ 0 ∷ 3 ∷ [] }
    -- R: fire 2: 41, place 2 lacks a token; the walk as it was
    ∷ record { gives = told (fire_answer walk_r 2) ++ read_from (fire_walk walk_r 2); says = 41 ∷ 0 ∷ 4 ∷ 0 ∷ 3 ∷ 0 ∷ 3 ∷ [] }
    -- R: fire 1: marking 5, count 1, set 5
    ∷ record { gives = told (fire_answer walk_r 1) ++ read_from (fire_walk walk_r 1); says = 0 ∷ 0 ∷ 0 ∷ 0 ∷ 5 ∷ 1 ∷ 5 ∷ [] }
    -- R holds 2: accepted nodes 23
    ∷ record { gives = written (ask 3 2 3 0) net_r formulas_r tree_r; says = bytes "accepted nodes 23\n" }
    -- R fails 2, node 3 keeping 2: broken 24 at 3
    ∷ record { gives = written (ask 3 2 3 1) net_r formulas_r (tree_fails 3 3 2); says = bytes "broken 24 at 3\n" }
    -- node 3 keeping 0: broken 26 at 1
    ∷ record { gives = written (ask 3 2 3 1) net_r formulas_r (tree_fails 3 3 0); says = bytes "broken 26 at 1\n" }
    -- only place 0 and t0, marking 1, node 3 keeping 0: accepted nodes 4
    ∷ record { gives = written (ask 1 2 1 1) (transition 1 1 1) formulas_r (tree_fails 1 1 0); says = bytes "accepted nodes 4\n" }
    ∷ []

-- each row gives what document 01 says
unfoldable pub Agree : List Sample → Type 0
Agree rows = map (λ r. r.gives) rows ≡ map (λ r. r.says) rows
