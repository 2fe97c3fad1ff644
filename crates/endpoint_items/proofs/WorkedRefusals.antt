-- Worked values: what is refused.
use Rattle.std.specs.Prelude.{[], ◌∷◌, Some, None}
use Rattle.std.proofs.Common.{◌≡◌, refl}
use Rattle.wire_base.specs.declared.frame.Version.TheVariants as version
use Rattle.wire_base.specs.declared.refusal.Refusal.TheVariants as refusal
use Rattle.wire_base.specs.declared.state.Cause.TheVariants as cause
use Rattle.message_framing.specs.Wrapped.{head_text}
use Rattle.mux_items.specs.declared.call.Call.TheVariants as call
use Rattle.mux_items.specs.Bodies.{Offer}
use Rattle.mux_items.specs.Items as mux
use Rattle.endpoint_items.specs.Items.{Mux, DidCall}
use Rattle.endpoint_items.specs.Calls.{OfMux, Attaches, OfConnection, call_refusal, called}
use Rattle.endpoint_items.proofs.Worked.{here, there, terms, ask, respond, live, attached, asked, served}

-- the channel of a connection is its own
write_in_use : call_refusal version.Three (OfMux (call.Write here (1 ∷ []))) attached ≡ Some refusal.Attached
write_in_use = refl

read_in_use : call_refusal version.Three (OfMux (call.Read here 1)) attached ≡ Some refusal.Attached
read_in_use = refl

complete_in_use : call_refusal version.Three (OfMux (call.Complete here)) attached ≡ Some refusal.Attached
complete_in_use = refl

read_unknown : call_refusal version.Three (OfMux (call.Read there 1)) attached ≡ Some refusal.NoChannel
read_unknown = refl

write_unattached : call_refusal version.Three (OfMux (call.Write here (1 ∷ []))) live ≡ None
write_unattached = refl

write_ended : call_refusal version.Three (OfMux (call.Write here (1 ∷ []))) (Mux (mux.End cause.InputEnded) ∷ attached) ≡ Some (refusal.Ended cause.InputEnded)
write_ended = refl

read_ended : call_refusal version.Three (OfMux (call.Read here 1)) (Mux (mux.End cause.InputEnded) ∷ attached) ≡ Some refusal.Attached
read_ended = refl

terminate_attached : call_refusal version.Three (OfMux (call.Terminate here)) attached ≡ None
terminate_attached = refl

-- a connection is attached once, and to a channel that is open
attach_open : call_refusal version.Three (Attaches here terms) live ≡ None
attach_open = refl

attach_twice : call_refusal version.Three (Attaches here terms) attached ≡ Some refusal.Attached
attach_twice = refl

attach_unknown : call_refusal version.Three (Attaches there terms) live ≡ Some refusal.NoChannel
attach_unknown = refl

attach_terminated : call_refusal version.Three (Attaches here terms) (Mux (mux.DidTerminate here) ∷ attached) ≡ Some refusal.NotOpen
attach_terminated = refl

attach_unaccepted : call_refusal version.Three (Attaches there terms) (Mux (mux.Got 0 there (Offer (97 ∷ []) (Some 100))) ∷ []) ≡ Some refusal.NotAccepted
attach_unaccepted = refl

attach_ended : call_refusal version.Three (Attaches here terms) (Mux (mux.End cause.InputEnded) ∷ live) ≡ Some (refusal.Ended cause.InputEnded)
attach_ended = refl

-- calls of a connection want one, and are refused as it says
ask_unattached : call_refusal version.Three (OfConnection here ask) live ≡ Some refusal.NotAttached
ask_unattached = refl

ask_ended : call_refusal version.Three (OfConnection here ask) (Mux (mux.DidTerminate here) ∷ attached) ≡ Some (refusal.Ended cause.ChannelClosed)
ask_ended = refl

respond_early : call_refusal version.Three (OfConnection here respond) attached ≡ Some refusal.NoRequest
respond_early = refl

respond_twice : call_refusal version.Three (OfConnection there respond) (DidCall there respond ∷ served) ≡ Some refusal.NoRequest
unfolding head_text
respond_twice = refl

asks : called version.Three (OfConnection here ask) attached ≡ asked
asks = refl
