-- The bytes of formulas, asks and nodes, and the tables of the starred samples of trees. Assumes nothing.
use Rattle.std.specs.Prelude.{ℕ, List, [], ◌∷◌, ◌++◌, get_or}
use Rattle.sample_bytes.specs.Bytes.{bytes}

-- a formula record
unfoldable pub formula : (op left right action : ℕ) → List ℕ
unfolding bytes
formula op left right action = bytes 2 op ++ bytes 2 left ++ bytes 2 right ++ bytes 2 action

-- R's formulas: 0 true, 1 op 3 action 3 of 0, 2 op 5 of 0, 1
unfoldable pub formulas_r : List ℕ
unfolding formula
formulas_r = formula 0 0 0 0 ++ formula 3 0 0 3 ++ formula 5 0 1 0

-- an ask
unfoldable pub ask : (marking formula places side : ℕ) → List ℕ
unfolding bytes
ask marking f places side = bytes 8 marking ++ bytes 2 f ++ bytes 1 places ++ bytes 1 side

-- a node: its fields in the order of their bytes
unfoldable pub node : (marking anchor kept parent first formula children rule side phase round transition : ℕ) → List ℕ
unfolding bytes
node marking anchor kept parent first f children rule side phase round transition =
    bytes 8 marking ++ bytes 8 anchor ++ bytes 8 kept ++ bytes 4 parent ++ bytes 4 first ++ bytes 2 f ++ bytes 1 children ++ bytes 1 rule ++ bytes 1 side
    ++ bytes 1 phase ++ bytes 1 round ++ bytes 1 transition

-- records one after the other
unfoldable pub joined : List (List ℕ) → List ℕ
joined [] = []
joined (r ∷ rs) = r ++ joined rs

-- the report's tree for "R holds 2 at 3" with no rule skipped: its nodes
unfoldable pub nodes_r : List (List ℕ)
unfolding node
nodes_r =
    node 3 0 0 0 1 2 3 6 0 0 0 0
    ∷ node 3 0 0 0 0 0 0 15 0 0 0 0
    ∷ node 3 0 0 0 4 2 1 7 0 0 0 0
    ∷ node 5 0 0 0 5 2 1 5 0 0 0 0
    ∷ node 3 3 3 2 6 2 1 8 0 1 2 0
    ∷ node 5 0 0 3 7 1 1 2 0 0 0 2
    ∷ node 3 3 3 4 8 2 3 9 0 2 1 0
    ∷ node 1 0 0 5 0 0 0 15 0 0 0 0
    ∷ node 3 0 0 6 0 0 0 15 0 0 0 0
    ∷ node 3 3 2 6 11 2 1 11 0 2 1 0
    ∷ node 5 3 1 6 12 2 1 10 0 2 1 0
    ∷ node 3 3 2 9 13 2 1 14 0 3 1 0
    ∷ node 5 0 0 10 14 1 1 2 0 0 0 2
    ∷ node 3 3 2 11 15 2 1 8 0 1 1 0
    ∷ node 1 0 0 12 0 0 0 15 0 0 0 0
    ∷ node 3 3 2 13 16 2 3 9 0 2 0 0
    ∷ node 3 0 0 15 0 0 0 15 0 0 0 0
    ∷ node 3 3 2 15 19 2 1 11 0 2 0 0
    ∷ node 5 3 0 15 20 2 1 10 0 2 0 0
    ∷ node 3 3 2 17 21 2 1 14 0 3 0 0
    ∷ node 5 0 0 18 22 1 1 2 0 0 0 2
    ∷ node 3 3 2 19 0 2 0 17 0 1 0 0
    ∷ node 1 0 0 20 0 0 0 15 0 0 0 0
    ∷ []

-- node k, zeros where there is none
unfoldable pub node_r : ℕ → List ℕ
unfolding nodes_r bytes
node_r k = get_or nodes_r k (bytes 40 0)

unfoldable pub tree_r : List ℕ
unfolding nodes_r joined
tree_r = joined nodes_r

-- "fails 2" by the rules 31, 32 (t0), 24 and 33, the last node keeping some
unfoldable pub tree_fails : (marking kept last : ℕ) → List ℕ
unfolding node
tree_fails marking kept last =
    node marking 0 0 0 1 2 1 31 1 0 0 0
    ++ node marking marking kept 0 2 2 2 32 1 4 0 0
    ++ node marking 0 0 1 0 1 0 24 1 0 0 0
    ++ node marking marking last 1 0 2 0 33 1 4 0 0
