-- What arguments ask of handles, and what a call with them makes of these.
use Rattle.std.specs.Prelude.{ℕ, List, ◌++◌, length, map, Bool, true, false, is_none, if◌then◌else◌, Option, Some, None}
use Rattle.std.specs.List.{list_any}
use Rattle.rpc_items.specs.Arguments.{handed}
use Rattle.rpc_items.specs.Made.{made_in}
use Rattle.rpc_items.specs.declared.calls.Arg.{Arg}
use Rattle.rpc_items.specs.declared.calls.Arg.TheVariants as arg
use Rattle.wire_base.specs.declared.refusal.Refusal.{Refusal}
use Rattle.wire_base.specs.declared.refusal.Refusal.TheVariants as refusal
use Rattle.marshalled_handles.specs.declared.own_handle.OwnHandle.{OwnHandle}
use Rattle.marshalled_handles.specs.declared.peer_handle.PeerHandle.{PeerHandle}
use Rattle.marshalled_handles.specs.Holder.{end_in}
use Rattle.marshalled_handles.specs.Owner.{fresh, room_refusal}

-- whether a handle is known to have ended
abbrev pub is_over : Option Bool → Bool
is_over (Some ended) = ended
is_over None = false

-- whether an argument is a handle that wasn't adopted
abbrev pub is_unknown_arg : List PeerHandle → Arg → Bool
is_unknown_arg held (arg.Handed number) = is_none (end_in number held)
is_unknown_arg held a = false

-- whether an argument is a handle that has ended
abbrev pub is_over_arg : List PeerHandle → Arg → Bool
is_over_arg held (arg.Handed number) = is_over (end_in number held)
is_over_arg held a = false

-- why the handles that go back to their owner are refused; each refusal is looked for in all of them before the next one is
abbrev pub handed_refusal : List Arg → List PeerHandle → Option Refusal
handed_refusal args held =
    if list_any (λ number. is_none (end_in number held)) (handed args) then Some refusal.NoHandle
    else if list_any (λ number. is_over (end_in number held)) (handed args) then Some refusal.Released
    else None

-- whether an argument is an object
abbrev pub is_object : Arg → Bool
is_object (arg.Object object lifetime) = true
is_object a = false

-- why the objects can't be offered
abbrev pub objects_refusal : List Arg → List OwnHandle → Option Refusal
objects_refusal args handles = room_refusal (length (made_in None args)) handles

-- each object gets the next handle, which may end with the response to an own request
abbrev pub offered_all : (request : Option ℕ) → List Arg → List OwnHandle → List OwnHandle
offered_all request args handles = handles ++ map fresh (made_in request args)
