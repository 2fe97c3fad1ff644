-- What is given of a stream, front after front, in whatever pieces it comes.
use Rattle.std.specs.Prelude.{◌≡◌, ◌≢◌, ℕ, ◌+◌, List, [], ◌∷◌, drop}
use Rattle.wire_base.specs.Front.{Front, Whole}

-- how a stream is read: what stands at the front of some bytes, and what is given of a whole thing by the place of its first byte
pub record Way (A B : Type 0) : Type 0 where
  pub front : List ℕ → Front A
  pub give : ℕ → A → B

-- this is given of the whole thing at the front of a stream whose first byte stands at a place
pub record First {A B : Type 0} (way : Way A B) (at : ℕ) (stream : List ℕ) (given : B) : Type 0 where
  pub value : A
  pub size : ℕ
  pub whole : way.front stream ≡ Whole value size
  pub given_is : given ≡ way.give at value

-- a stream whose first byte stands at a place begins with whole things of which these are given, and then comes a rest
abbrev pub Begins : {A B : Type 0} → Way A B → (at : ℕ) → (stream : List ℕ) → List B → (rest : List ℕ) → Type 0
Begins way at stream [] rest = stream ≡ rest
Begins way at stream (x ∷ xs) rest = (first : First way at stream x) × Begins way (at + first.size) (drop first.size stream) xs rest

-- nothing whole stands at the front
abbrev pub HasNone : {A B : Type 0} → Way A B → List ℕ → Type 0
HasNone {A} way bytes = (value : A) (size : ℕ) → way.front bytes ≢ Whole value size
