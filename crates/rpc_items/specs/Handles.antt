-- Lives of handles of both sides.
use Rattle.std.specs.Prelude.{List, Bool, not, ◌&&◌, is_some, if◌then◌else◌}
use Rattle.rpc_items.specs.declared.calls.HandleKey.{HandleKey}
use Rattle.rpc_items.specs.Items.{RpcItem}
use Rattle.rpc_items.specs.OwnHandles.{own_made, own_ended}
use Rattle.rpc_items.specs.PeerHandles.{adopted, peer_ended}

-- whether a handle was made or adopted
abbrev pub is_made : HandleKey → List RpcItem → Bool
is_made key items = if key.own then is_some (own_made key.number items) else is_some (adopted key.number items)

-- whether a handle has ended
abbrev pub has_ended : HandleKey → List RpcItem → Bool
has_ended key items = if key.own then own_ended key.number items else peer_ended key.number items

-- whether a handle was made and hasn't ended
abbrev pub is_live : HandleKey → List RpcItem → Bool
is_live key items = is_made key items && not (has_ended key items)
