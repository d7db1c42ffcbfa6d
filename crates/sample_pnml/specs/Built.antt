-- Texts of the samples, and bytes put into a room. Assumes nothing.
use Rattle.std.specs.Prelude.{ℕ, zero, suc, ◌+◌, ◌-◌, ◌≡◌, Bool, cond, not, ◌&&◌, ◌||◌, List, [], ◌∷◌, ◌++◌, length, get_or, eqb, ltb}
use Rattle.std.proofs.lemmas.List.Edits.{sets}
use Rattle.texts.specs.Text.{bytes, decimal}

-- these bytes were put at an offset, as far as the room goes, and this is the offset after them
pub record Put (before after : List ℕ) (at : ℕ) (part : List ℕ) (next : ℕ) : Type 0 where
  pub stored : after ≡ sets before at part
  pub after_it : next ≡ at + length part

-- an element with this number
unfoldable pub element : (opening : List ℕ) (number : ℕ) (closing : List ℕ) → List ℕ
element opening n closing = opening ++ (decimal n ++ closing)

-- n of them, numbered from 0 on
unfoldable pub elements : (opening closing : List ℕ) → ℕ → List ℕ
elements opening closing zero = []
elements opening closing (suc n) = elements opening closing n ++ element opening n closing

-- the head, places with mark 1, transitions with action 7
unfoldable pub draft : (places transitions : ℕ) → List ℕ
draft places transitions =
    bytes "<pnml xmlns=\"http://www.pnml.org/version-2009/grammar/pnml\">"
    ++ (bytes "<net id=\"n\" type=\"http://www.pnml.org/version-2009/grammar/ptnet\"><page id=\"g\">"
    ++ (elements (bytes "<place id=\"p") (bytes "\"><initialMarking><text>1</text></initialMarking></place>") places
    ++ elements (bytes "<transition id=\"t") (bytes "\"><name><text>7</text></name></transition>") transitions))

-- byte i is the `>` of a tag other than `<text>`
unfoldable pub tag_ends : List ℕ → ℕ → Bool
tag_ends text i = eqb (get_or text i 0) 62 && (ltb i 5 || (not (eqb (get_or text (i - 5) 0) 60) || not (eqb (get_or text (i - 4) 0) 116)))

-- a byte, with a space, a tab, CR and LF after it where asked
unfoldable pub padded : ℕ → Bool → List ℕ
padded b ends = cond ends (b ∷ 32 ∷ 9 ∷ 13 ∷ 10 ∷ []) (b ∷ [])

-- the first bytes of a text, with white space after its tags
unfoldable pub spaced : List ℕ → ℕ → List ℕ
spaced text zero = []
spaced text (suc i) = spaced text i ++ padded (get_or text i 0) (tag_ends text i)

-- some bytes n times
unfoldable pub often : List ℕ → ℕ → List ℕ
often part zero = []
often part (suc n) = often part n ++ part
