-- Handles of both sides.
use Rattle.std.specs.Prelude.{ℕ, Bool, true, false, ◌==◌, if◌then◌else◌, not}
use Rattle.rpc_items.specs.declared.calls.HandleKey.{HandleKey}

-- whether two flags are the same
abbrev pub same_bool : Bool → Bool → Bool
same_bool true b = b
same_bool false true = false
same_bool false false = true

-- whether two handles are the same one
abbrev pub same_key : HandleKey → HandleKey → Bool
same_key a b = if a.number == b.number then same_bool a.own b.own else false

-- a handle that this end made
abbrev pub own_key : ℕ → HandleKey
own_key number = record { number = number; own = true }

-- a handle that the peer made
abbrev pub peer_key : ℕ → HandleKey
peer_key number = record { number = number; own = false }

-- a handle as the other end names it
abbrev pub other_side : HandleKey → HandleKey
other_side key = record { number = key.number; own = not key.own }
