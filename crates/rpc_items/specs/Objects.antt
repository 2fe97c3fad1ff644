-- Objects that are passed by handle, as values.
use Rattle.std.specs.Prelude.{ℕ, pos, List, [], ◌∷◌, Bool, false, ◌==◌, nat_lt, codes, bytes_eq, is_some, if◌then◌else◌, Option, Some, None}
use Rattle.wire_base.specs.Tree.{Tree}
use Rattle.wire_base.specs.Find.{last_of}
use Rattle.wire_base.specs.Tree as tree
use Rattle.rpc_items.specs.declared.calls.Lifetime.{Lifetime}
use Rattle.rpc_items.specs.declared.calls.Lifetime.TheVariants.{Call, Explicit}
use Rattle.rpc_items.specs.declared.messages.Params.{Params}
use Rattle.rpc_items.specs.declared.messages.Params.TheVariants.{Absent, Named}
use Rattle.rpc_items.specs.declared.messages.Params.TheVariants as params
use Rattle.rpc_items.specs.Ids.{whole_bound, count_value}
use Rattle.rpc_items.specs.Values.{member, map_of}

-- the member that tells such a value
abbrev pub marshaled : List ℕ
marshaled = codes "__jsonrpc_marshaled"

-- a map that callers may not pass as a value
abbrev pub is_reserved_value : Tree → Bool
is_reserved_value value = is_some (member marshaled value)

-- a lifetime as a text
abbrev pub lifetime_text : Lifetime → List ℕ
lifetime_text Call = codes "call"
lifetime_text Explicit = codes "explicit"

-- an object that is offered by a handle
abbrev pub object_value : ℕ → Lifetime → Tree
object_value handle lifetime = map_of ((marshaled, count_value 1) ∷ (codes "handle", count_value handle) ∷ (codes "lifetime", tree.words (lifetime_text lifetime)) ∷ [])

-- a handle that goes back to its owner
abbrev pub handed_value : ℕ → Tree
handed_value handle = map_of ((marshaled, count_value 0) ∷ (codes "handle", count_value handle) ∷ [])

-- whether a member is the number 1
abbrev pub is_one : Option Tree → Bool
is_one (Some (tree.whole (pos n))) = n == 1
is_one value = false

-- a handle is a whole number of 64 bits, signed, and not negative
abbrev pub handle_in : Option Tree → Option ℕ
handle_in (Some (tree.whole (pos n))) = if nat_lt n whole_bound then Some n else None
handle_in value = None

-- a lifetime; one that isn't told is explicit
abbrev pub lifetime_in : Option Tree → Option Lifetime
lifetime_in None = Some Explicit
lifetime_in (Some (tree.words s)) = if bytes_eq s (codes "call") then Some Call else if bytes_eq s (codes "explicit") then Some Explicit else None
lifetime_in (Some value) = None

-- an object that the peer offers
pub record Offered : Type 0 where
  pub handle : ℕ
  pub lifetime : Lifetime

-- an offer has a handle and a lifetime
abbrev pub offered_by : Option ℕ → Option Lifetime → Option Offered
offered_by (Some handle) (Some lifetime) = Some (record { handle = handle; lifetime = lifetime })
offered_by handle lifetime = None

-- the object that a whole value offers; with another handle or lifetime it is a plain value
abbrev pub offered_in : Tree → Option Offered
offered_in value = if is_one (member marshaled value) then offered_by (handle_in (member (codes "handle") value)) (lifetime_in (member (codes "lifetime") value)) else None

-- the values of the members, the last of a repeated key alone
abbrev pub last_values : List (List ℕ × Tree) → List Tree
last_values [] = []
last_values (p ∷ ps) = if is_some (last_of p.0 ps) then last_values ps else p.1 ∷ last_values ps

-- whole arguments, in order
abbrev pub whole_arguments : Params → List Tree
whole_arguments Absent = []
whole_arguments (params.List values) = values
whole_arguments (Named ps) = last_values ps
