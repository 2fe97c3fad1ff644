-- A sequence that comes in pages, as values.
use Rattle.std.specs.Prelude.{ℕ, zero, suc, ◌+◌, ◌*◌, List, [], ◌∷◌, ◌++◌, length, take, drop, Bool, nat_lt, nat_le, codes, Option, Some, None}
use Rattle.wire_base.specs.Tree.{Tree, trees_of}
use Rattle.wire_base.specs.Tree as tree
use Rattle.rpc_items.specs.Ids.{count_value}
use Rattle.rpc_items.specs.Values.{map_of}
use Rattle.rpc_items.specs.Produced.{Produced}

-- the values that go with the result
abbrev pub first_values : Produced → List Tree
first_values s = take s.first s.values

-- the next page after so many
abbrev pub page_after : Produced → (pages : ℕ) → List Tree
page_after s pages = take s.page (drop (s.first + pages * s.page) s.values)

-- whether values are left after so many pages
abbrev pub are_left : Produced → (pages : ℕ) → Bool
are_left s pages = nat_lt (s.first + pages * s.page) (length s.values)

-- the token, which stands in a sequence that isn't all in its result
abbrev pub token_member : Option ℕ → List (List ℕ × Tree)
token_member (Some token) = (codes "token", count_value token) ∷ []
token_member None = []

-- the result that is a sequence: its token and its first values
abbrev pub sequence_value : Option ℕ → List Tree → Tree
sequence_value token values = map_of (token_member token ++ ((codes "values", tree.items (trees_of values)) ∷ []))

-- a page: whether it is the last, and its values
abbrev pub page_value : (finished : Bool) → List Tree → Tree
page_value finished values = map_of ((codes "finished", tree.flag finished) ∷ (codes "values", tree.items (trees_of values)) ∷ [])

-- these values in pages, of which only the last is finished, at most so many of them
abbrev pub page_values : (most page : ℕ) → List Tree → List Tree
page_values zero page values = []
page_values (suc most) page [] = []
page_values (suc most) page (value ∷ values) =
    page_value (nat_le (length (value ∷ values)) page) (take page (value ∷ values)) ∷ page_values most page (drop page (value ∷ values))
