-- The tables of the samples of written trees. Assumes nothing.
use Rattle.std.specs.Prelude.{ℕ, zero, suc, ◌+◌, ◌*◌, ◌%◌, List, [], ◌++◌, get_or}
use Rattle.sample_nets.specs.Tables.{transition}
use Rattle.sample_trees.specs.Tables.{formula}

-- the number that byte i writes, as a digit
abbrev digit : List ℕ → (i : ℕ) → ℕ
digit rows i = get_or rows i 0 % 16

-- the formula record of row f of rows of four digits, with a byte between them: operator, left, right, action
unfoldable pub row : List ℕ → (f : ℕ) → List ℕ
unfolding formula
row rows f = formula (digit rows (f * 5)) (digit rows (f * 5 + 1)) (digit rows (f * 5 + 2)) (digit rows (f * 5 + 3))

-- those of the first n rows
unfoldable pub table : List ℕ → (n : ℕ) → List ℕ
unfolding row
table rows zero = []
table rows (suc n) = table rows n ++ row rows n

-- 0 true, 1 op 3 action 3 of 0, 2 not 0, 3 not 2, 4 not 1, 5 and of 0, 0, 6 and of 5, 5, 7 and of 2, 0, 8 and of 0, 2, 9 and of 2, 1,
-- 10 op 3 action 2 of 1, 11 op 3 action 2 of 2
unfoldable pub operators : List ℕ
unfolding formula
operators =
    formula 0 0 0 0
    ++ formula 3 0 0 3
    ++ formula 1 0 0 0
    ++ formula 1 2 0 0
    ++ formula 1 1 0 0
    ++ formula 2 0 0 0
    ++ formula 2 5 5 0
    ++ formula 2 2 0 0
    ++ formula 2 0 2 0
    ++ formula 2 2 1 0
    ++ formula 3 1 0 2
    ++ formula 3 2 0 2

-- R's formulas, 3 op 3 action 2 of 1, 4 not 3, 5 and of 3, 1, 6 and of 1, 3
unfoldable pub formulas_r : List ℕ
unfolding formula
formulas_r =
    formula 0 0 0 0
    ++ formula 3 0 0 3
    ++ formula 5 0 1 0
    ++ formula 3 1 0 2
    ++ formula 1 3 0 0
    ++ formula 2 3 1 0
    ++ formula 2 1 3 0

-- 0 true, 1 op 3 action 8 of 0, 2 op 3 action 7 of 1, 3 op 3 action 7 of 0, 4 not 0, 5 op 3 action 7 of 4, 6 op 3 action 6 of 0, 7 op 3 action 7 of 6
unfoldable pub choices : List ℕ
unfolding formula
choices =
    formula 0 0 0 0
    ++ formula 3 0 0 8
    ++ formula 3 1 0 7
    ++ formula 3 0 0 7
    ++ formula 1 0 0 0
    ++ formula 3 4 0 7
    ++ formula 3 0 0 6
    ++ formula 3 6 0 7

-- 0 true, 1 op 4 of 0, 0, 2 op 5 of 0, 0, 3 not 1, 4 and of 0, 2, 5 op 3 action 3 of 4, 6 and of 0, 0, 7 not 6, 8 and of 7, 1
unfoldable pub untils : List ℕ
unfolding formula
untils =
    formula 0 0 0 0
    ++ formula 4 0 0 0
    ++ formula 5 0 0 0
    ++ formula 1 1 0 0
    ++ formula 2 0 2 0
    ++ formula 3 4 0 3
    ++ formula 2 0 0 0
    ++ formula 1 6 0 0
    ++ formula 2 7 1 0

-- n "and"s, each of the record before it with itself, from record 1 on
unfoldable pub ands : ℕ → List ℕ
unfolding formula
ands zero = []
ands (suc n) = ands n ++ formula 2 n n 0

-- 0 true, and n of them
unfoldable pub chain : ℕ → List ℕ
unfolding formula ands
chain n = formula 0 0 0 0 ++ ands n

-- 15 of them, 16 not 15, 17 not 16, 18 not 0, 19 and of 17, 18
unfoldable pub chains : List ℕ
unfolding formula chain
chains = chain 15 ++ formula 1 15 0 0 ++ formula 1 16 0 0 ++ formula 1 0 0 0 ++ formula 2 17 18 0

-- a net of 3 places: t0 2→1 action 7; t1 1→2 action 7; t2, t3 1→4 action 7; t4 1→4 action 6; t5 4→0 action 8
unfoldable pub net_of_choices : List ℕ
unfolding transition
net_of_choices = transition 2 1 7 ++ transition 1 2 7 ++ transition 1 4 7 ++ transition 1 4 7 ++ transition 1 4 6 ++ transition 4 0 8
