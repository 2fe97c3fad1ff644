-- Worked values: both ends attach, one asks and the other answers.
use Rattle.std.specs.Prelude.{List, [], ◌∷◌, codes, true, false, Some, None, pos}
use Rattle.std.proofs.Common.{◌≡◌, refl}
use Rattle.wire_base.specs.declared.frame.Version.TheVariants as version
use Rattle.wire_base.specs.declared.state.Cause.TheVariants as cause
use Rattle.wire_base.specs.declared.text.Id.TheVariants.{Number}
use Rattle.mux_items.specs.declared.channel.ChannelKey.{ChannelKey}
use Rattle.mux_items.specs.Bodies.{Offer, OfferAccepted, Content}
use Rattle.mux_items.specs.Items as mux
use Rattle.message_framing.specs.declared.framing.Framing.TheVariants as framing
use Rattle.message_body.specs.declared.encoding.Encoding.TheVariants as encoding
use Rattle.message_framing.specs.Wrapped.{head_text}
use Rattle.rpc_items.specs.declared.calls.Answer.TheVariants as answer
use Rattle.rpc_items.specs.declared.calls.Arg.TheVariants as arg
use Rattle.rpc_items.specs.declared.calls.Arguments.TheVariants as arguments
use Rattle.rpc_items.specs.declared.calls.Expect.TheVariants.{Plain}
use Rattle.rpc_items.specs.declared.calls.Outcome.TheVariants.{Replied, Lost}
use Rattle.rpc_items.specs.declared.messages.Message.{Message}
use Rattle.rpc_items.specs.declared.messages.Message.TheVariants.{Request}
use Rattle.rpc_items.specs.declared.messages.Message.TheVariants as message
use Rattle.rpc_items.specs.declared.messages.Params.TheVariants as params
use Rattle.rpc_items.specs.Ids.{count_value}
use Rattle.rpc_items.specs.Items as rpc
use Rattle.rpc_items.specs.Outcomes.{Known, outcome}
use Rattle.rpc_end.specs.declared.terms.Terms.{Terms}
use Rattle.rpc_end.specs.Texts.{message_text}
use Rattle.endpoint_items.specs.Items.{EndItem, Mux, Attach, DidCall, GotMessage}
use Rattle.endpoint_items.specs.Connections.{items_of}
use Rattle.endpoint_items.specs.Layers.{mux_of, rpc_of}
use Rattle.endpoint_items.specs.Bytes.{joined, rest_of}

-- the channel as the end that offered it names it, and as the other does
abbrev pub here : ChannelKey
here = record { id = 1; own = true }

abbrev pub there : ChannelKey
there = record { id = 1; own = false }

abbrev pub terms : Terms
terms = record { framing = framing.Length; encoding = encoding.Pack }

abbrev pub request : Message
request = Request (Number (pos 1)) (codes "add") (params.List (count_value 2 ∷ count_value 3 ∷ []))

abbrev pub reply : Message
reply = message.Result (Number (pos 1)) (count_value 5)

abbrev pub ask : rpc.RpcCall
ask = rpc.Ask (codes "add") (arguments.List (arg.Plain (count_value 2) ∷ arg.Plain (count_value 3) ∷ [])) Plain

abbrev pub respond : rpc.RpcCall
respond = rpc.Respond (Number (pos 1)) (answer.Value (count_value 5))

-- the end that offers and asks

abbrev pub live : List EndItem
live = Mux (mux.Got 0 here (OfferAccepted (Some 100))) ∷ Mux (mux.DidOffer here (97 ∷ []) 100) ∷ []

abbrev pub attached : List EndItem
attached = Attach here terms ∷ live

abbrev pub asked : List EndItem
asked = DidCall here ask ∷ attached

-- an Attach reads what is unread, also where that is nothing
attach_reads : mux_of version.Three attached ≡ mux.DidRead here 0 ∷ mux.Got 0 here (OfferAccepted (Some 100)) ∷ mux.DidOffer here (97 ∷ []) 100 ∷ []
attach_reads = refl

begins : rpc_of version.Three here attached ≡ Some []
begins = refl

none_elsewhere : rpc_of version.Three there attached ≡ None
none_elsewhere = refl

ask_writes : mux_of version.Three asked ≡ mux.DidWrite here (message_text terms request) ∷ mux_of version.Three attached
unfolding head_text
ask_writes = refl

asks : rpc_of version.Three here asked ≡ Some (rpc.Did ask ∷ [])
asks = refl

-- content is read whole; the message in it is an item of its own
abbrev pub came : List EndItem
came = Mux (mux.Got 30 here (Content (message_text terms reply))) ∷ asked

abbrev pub replied : List EndItem
replied = GotMessage here 4 29 reply ∷ came

content_is_read : mux_of version.Three came ≡ mux.DidRead here 29 ∷ mux.Got 30 here (Content (message_text terms reply)) ∷ mux_of version.Three asked
unfolding head_text
content_is_read = refl

content_joins : joined version.Three here came ≡ message_text terms reply
unfolding head_text
content_joins = refl

content_waits : rest_of version.Three here came ≡ message_text terms reply
unfolding head_text
content_waits = refl

message_is_taken : rest_of version.Three here replied ≡ []
unfolding head_text
message_is_taken = refl

message_says_nothing : mux_of version.Three replied ≡ mux_of version.Three came
message_says_nothing = refl

knows : outcome false 1 (items_of (rpc_of version.Three here replied)) ≡ Known (Replied (count_value 5))
unfolding head_text
knows = refl

-- the end of the stream loses what wasn't answered
loses : outcome false 1 (items_of (rpc_of version.Three here (Mux (mux.End cause.InputEnded) ∷ asked))) ≡ Known Lost
loses = refl

keeps : outcome false 1 (items_of (rpc_of version.Three here (Mux (mux.End cause.InputEnded) ∷ replied))) ≡ Known (Replied (count_value 5))
unfolding head_text
keeps = refl

-- the other end, which answers

abbrev pub serves : List EndItem
serves = Mux (mux.Got 10 there (Content (message_text terms request))) ∷ Attach there terms ∷ Mux (mux.DidAccept there 100) ∷ Mux (mux.Got 0 there (Offer (97 ∷ []) (Some 100))) ∷ []

abbrev pub served : List EndItem
served = GotMessage there 4 42 request ∷ serves

answers : mux_of version.Three (DidCall there respond ∷ served) ≡ mux.DidWrite there (message_text terms reply) ∷ mux_of version.Three served
unfolding head_text
answers = refl

has_answered : rpc_of version.Three there (DidCall there respond ∷ served) ≡ Some (rpc.Did respond ∷ rpc.Got 4 request ∷ [])
has_answered = refl
