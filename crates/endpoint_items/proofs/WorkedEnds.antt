-- Worked values: what ends a connection.
use Rattle.std.specs.Prelude.{List, [], ◌∷◌, Some}
use Rattle.std.proofs.Common.{◌≡◌, refl}
use Rattle.wire_base.specs.declared.frame.Version.TheVariants as version
use Rattle.wire_base.specs.declared.reason.Reason.TheVariants as reason
use Rattle.wire_base.specs.declared.state.Cause.TheVariants as cause
use Rattle.mux_items.specs.Applying.{place_at}
use Rattle.mux_items.specs.Bodies.{Content, ContentWritingCompleted, ChannelTerminated}
use Rattle.mux_items.specs.Items as mux
use Rattle.rpc_items.specs.Items as rpc
use Rattle.endpoint_items.specs.Items.{EndItem, Mux, Attach, RefusedMessage}
use Rattle.endpoint_items.specs.Layers.{mux_of, rpc_of}
use Rattle.endpoint_items.specs.Bytes.{joined}
use Rattle.endpoint_items.proofs.Worked.{here, terms, live, attached}

-- terminations end a connection
terminates : rpc_of version.Three here (Mux (mux.DidTerminate here) ∷ attached) ≡ Some (rpc.End cause.ChannelClosed ∷ [])
terminates = refl

is_terminated : rpc_of version.Three here (Mux (mux.Got 30 here ChannelTerminated) ∷ attached) ≡ Some (rpc.End cause.ChannelClosed ∷ [])
is_terminated = refl

-- the peer's completion ends it, and is answered
abbrev completed : List EndItem
completed = Mux (mux.Got 30 here ContentWritingCompleted) ∷ attached

completes : mux_of version.Three completed ≡ mux.DidComplete here ∷ mux.Got 30 here ContentWritingCompleted ∷ mux_of version.Three attached
completes = refl

is_completed : rpc_of version.Three here completed ≡ Some (rpc.End cause.PeerCompleted ∷ [])
is_completed = refl

-- an Attach after it
abbrev late : List EndItem
late = Attach here terms ∷ Mux (mux.Got 35 here ContentWritingCompleted) ∷ Mux (mux.Got 30 here (Content (7 ∷ 8 ∷ []))) ∷ live

late_completes : mux_of version.Three late ≡ mux.DidComplete here ∷ mux.DidRead here 2 ∷ mux.Got 35 here ContentWritingCompleted ∷ mux.Got 30 here (Content (7 ∷ 8 ∷ [])) ∷ mux_of version.Three live
late_completes = refl

late_ends : rpc_of version.Three here late ≡ Some (rpc.End cause.PeerCompleted ∷ [])
late_ends = refl

late_joins : joined version.Three here late ≡ 7 ∷ 8 ∷ []
late_joins = refl

-- a refused message terminates its channel
abbrev refused : List EndItem
refused = RefusedMessage here 0 reason.BadLength ∷ Mux (mux.Got 30 here (Content (0 ∷ 0 ∷ 0 ∷ 0 ∷ []))) ∷ attached

refusal_terminates : mux_of version.Three refused ≡ mux.DidTerminate here ∷ mux.DidRead here 4 ∷ mux.Got 30 here (Content (0 ∷ 0 ∷ 0 ∷ 0 ∷ [])) ∷ mux_of version.Three attached
refusal_terminates = refl

refusal_ends : rpc_of version.Three here refused ≡ Some (rpc.End (cause.Refused (place_at 0) reason.BadLength) ∷ [])
refusal_ends = refl
