-- Ids of requests, and tokens.
use Rattle.std.specs.Prelude.{ℕ, ℤ, pos, negsuc, length, Bool, false, nat_lt, nat_le, bytes_eq, if◌then◌else◌, Option, Some, None}
use Rattle.std.specs.Ordering.{int_eq}
use Rattle.wire_base.specs.Tree.{Tree}
use Rattle.wire_base.specs.declared.text.Id.{Id}
use Rattle.wire_base.specs.declared.text.Id.TheVariants.{Number, Name}
use Rattle.wire_base.specs.Tree as tree
use Rattle.rpc_items.specs.declared.limits.TheConstants.{LONGEST_ID}

-- whether two ids are the same: equal numbers, or equal texts
abbrev pub same_id : Id → Id → Bool
same_id (Number a) (Number b) = int_eq a b
same_id (Name a) (Name b) = bytes_eq a b
same_id a b = false

-- a number that this end drew, as the id of a request or a token
abbrev pub numbered_id : ℕ → Id
numbered_id n = Number (pos n)

-- whole numbers of 64 bits, signed, are below this, and not below its negative
abbrev pub whole_bound : ℕ
whole_bound = 0x8000000000000000

-- whether a number is a whole number of 64 bits, signed
abbrev pub is_id_number : ℤ → Bool
is_id_number (pos n) = nat_lt n whole_bound
is_id_number (negsuc n) = nat_lt n whole_bound

-- the most bytes of a text that is an id
abbrev pub most_id_text : ℕ
most_id_text = LONGEST_ID

-- the id or token that a value is: a number of 64 bits, or a text that isn't too long
abbrev pub id_in : Tree → Option Id
id_in (tree.whole z) = if is_id_number z then Some (Number z) else None
id_in (tree.words s) = if nat_le (length s) most_id_text then Some (Name s) else None
id_in value = None

-- the id or token that a value is, where there is one
abbrev pub id_if : Option Tree → Option Id
id_if (Some value) = id_in value
id_if None = None

-- an id as a value
abbrev pub id_value : Id → Tree
id_value (Number z) = tree.whole z
id_value (Name s) = tree.words s

-- a count as a value
abbrev pub count_value : ℕ → Tree
count_value n = tree.whole (pos n)
