-- What is kept of handles of both sides, and what calls make of it.
use Rattle.std.specs.Prelude.{List, Bool, if◌then◌else◌, Option}
use Rattle.rpc_items.specs.declared.calls.HandleKey.{HandleKey}
use Rattle.marshalled_handles.specs.declared.own_handle.OwnHandle.{OwnHandle}
use Rattle.marshalled_handles.specs.declared.peer_handle.PeerHandle.{PeerHandle}
use Rattle.marshalled_handles.specs.Holder as holder
use Rattle.marshalled_handles.specs.Owner as owner

-- whether a handle has ended, where it was made or adopted
abbrev pub end_in : HandleKey → List OwnHandle → List PeerHandle → Option Bool
end_in key handles held = if key.own then owner.end_in key.number handles else holder.end_in key.number held

-- the handles of this end, where one of either side ends
abbrev pub owner_released : HandleKey → List OwnHandle → List OwnHandle
owner_released key handles = if key.own then owner.released key.number handles else handles

-- those of the peer, where one of either side ends
abbrev pub holder_released : HandleKey → List PeerHandle → List PeerHandle
holder_released key held = if key.own then held else holder.released key.number held
