-- What is kept of the handles that this end made, and what calls make of it.
use Rattle.std.specs.Prelude.{ℕ, ◌+◌, ◌-◌, List, [], ◌∷◌, ◌++◌, length, map, Bool, true, false, ◌==◌, nat_lt, option_map, if◌then◌else◌, Option, Some, None}
use Rattle.wire_base.specs.Lists.{changed_at}
use Rattle.wire_base.specs.declared.refusal.Refusal.{Refusal}
use Rattle.wire_base.specs.declared.refusal.Refusal.TheVariants as refusal
use Rattle.rpc_items.specs.Arguments.{most_drawn}
use Rattle.rpc_items.specs.Drawn.{with_number}
use Rattle.rpc_items.specs.Made.{Made}
use Rattle.marshalled_handles.specs.declared.own_handle.OwnHandle.{OwnHandle}

-- whether a handle that there may be has ended
abbrev pub end_of : Option OwnHandle → Option Bool
end_of handle = option_map (λ h. h.ended) handle

-- whether handle n has ended, where it was made
abbrev pub end_in : ℕ → List OwnHandle → Option Bool
end_in number handles = end_of (with_number number handles)

-- the object of a handle that there may be, while it lives
abbrev pub living_object : Option OwnHandle → Option ℕ
living_object (Some h) = if h.ended then None else Some h.object
living_object None = None

-- the object of handle n, while it lives
abbrev pub object_in : ℕ → List OwnHandle → Option ℕ
object_in number handles = living_object (with_number number handles)

-- why so many more handles can't be made
abbrev pub room_refusal : (count : ℕ) → List OwnHandle → Option Refusal
room_refusal count handles = if nat_lt most_drawn (length handles + count) then Some refusal.TooManyHandles else None

-- a handle as it is made
abbrev pub fresh : Made → OwnHandle
fresh made = record { object = made.object; until = made.until; ended = false }

-- one more handle is made
abbrev pub offered : Made → List OwnHandle → List OwnHandle
offered made handles = handles ++ (fresh made ∷ [])

-- a handle ends
abbrev pub ending : OwnHandle → OwnHandle
ending h = record h { ended = true }

-- handle n ends, where it was made
abbrev pub released : ℕ → List OwnHandle → List OwnHandle
released number handles = if number == 0 then handles else changed_at (number - 1) ending handles

-- whether a handle ends with the response to this own request, by the one with whose response it does
abbrev pub is_until : (request : ℕ) → Option ℕ → Bool
is_until request (Some n) = n == request
is_until request None = false

-- a handle ends, where it does with the response to this own request
abbrev pub answering : (request : ℕ) → OwnHandle → OwnHandle
answering request h = if is_until request h.until then ending h else h

-- the response to this own request came
abbrev pub answered : (request : ℕ) → List OwnHandle → List OwnHandle
answered request handles = map (answering request) handles

-- every handle ends
abbrev pub all_ended : List OwnHandle → List OwnHandle
all_ended handles = map ending handles
