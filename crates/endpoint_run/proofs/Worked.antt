-- Worked values: both ends attach, A asks and B answers across the ends, the end of the stream loses a reply that it cuts, and
-- both release one handle.
use Rattle.std.specs.Prelude.{ℕ, List, [], ◌∷◌, ◌++◌, true, false, Some, pos}
use Rattle.std.proofs.Common.{◌≡◌, refl, sym, ◌∙◌, arith}
use Rattle.std.specs.Str.{is_utf8, chars}
use Rattle.std.proofs.lemmas.Int.{ints}
use Rattle.std.proofs.lemmas.Str.{IsUtf8-from_is_utf8}
use lib.Utf8.{encode}
use Rattle.wire_base.specs.declared.frame.Version.TheVariants as version
use Rattle.wire_base.specs.declared.text.Id.TheVariants.{Number}
use Rattle.wire_base.specs.Whole.{IsWhole}
use Rattle.wire_base.specs.Tokens.{head_at, token_at, inner_at, field_at, bytes_at}
use Rattle.wire_base.specs.Head.{lettered}
use Rattle.pack_value.specs.Answer as pack
use Rattle.pack_value.specs.Shortest as shortest
use Rattle.pack_value.specs.Reading.{run_at, text_at, cut_head, key_at, repeat, pair_at, behind, value_at, items_at, pairs_at}
use Rattle.message_body.specs.AsRead.{AreMessages}
use Rattle.message_framing.specs.Front.{front}
use Rattle.message_framing.specs.Wrapped.{head_text}
use Rattle.message_framing.specs.declared.framing.Framing.TheVariants as framing
use Rattle.message_body.specs.declared.encoding.Encoding.TheVariants as encoding
use Rattle.mux_items.specs.declared.call.Call.TheVariants as call
use Rattle.mux_items.specs.declared.channel.ChannelKey.{ChannelKey}
use Rattle.mux_run.specs.Run.{Terms}
use Rattle.mux_run.specs.declared.steps.Side.TheVariants.{A, B}
use Rattle.rpc_items.specs.declared.calls.Answer.TheVariants as answer
use Rattle.rpc_items.specs.declared.calls.Arg.TheVariants as arg
use Rattle.rpc_items.specs.declared.calls.Arguments.TheVariants as arguments
use Rattle.rpc_items.specs.declared.calls.Expect.TheVariants.{Plain}
use Rattle.rpc_items.specs.declared.calls.Lifetime.TheVariants.{Explicit}
use Rattle.rpc_items.specs.declared.calls.Outcome.TheVariants.{Replied, Lost}
use Rattle.rpc_items.specs.declared.messages.Message.{Message}
use Rattle.rpc_items.specs.declared.messages.Message.TheVariants as message
use Rattle.rpc_items.specs.declared.messages.Params.TheVariants as params
use Rattle.rpc_items.specs.Ids.{count_value}
use Rattle.rpc_items.specs.Items as rpc
use Rattle.rpc_items.specs.Keys.{own_key, peer_key}
use Rattle.rpc_items.specs.Outcomes.{Known, NotYet}
use Rattle.rpc_items.specs.Resting.{releases_of}
use Rattle.rpc_end.specs.declared.terms.Terms.{Terms as Form}
use Rattle.endpoint_items.specs.Calls.{OfMux, Attaches, OfConnection}
use Rattle.endpoint_items.specs.Connections.{items_of}
use Rattle.endpoint_items.specs.Exchange.{said_on}
use Rattle.endpoint_items.specs.Items.{terms_of}
use Rattle.endpoint_items.specs.Layers.{rpc_of}
use Rattle.endpoint_items.specs.Outcomes.{outcome_on}
use Rattle.endpoint_run.specs.Exchange.{IsShared}
use Rattle.endpoint_run.specs.Run.{EndStep, Calls, Delivers, Ends, end_run}

-- the channel as A names it, and as B does
abbrev at_a : ChannelKey
at_a = record { id = 1; own = true }

abbrev at_b : ChannelKey
at_b = record { id = 1; own = false }

abbrev terms : Terms
terms = record { version = version.Three; nonce_a = []; nonce_b = [] }

abbrev form : Form
form = record { framing = framing.Length; encoding = encoding.Pack }

abbrev attached : List EndStep
attached =
    Calls A (OfMux (call.Offer (97 ∷ []) 100))
    ∷ Delivers B 1000
    ∷ Calls B (OfMux (call.Accept at_b 100))
    ∷ Calls B (Attaches at_b form)
    ∷ Delivers A 1000
    ∷ Calls A (Attaches at_a form)
    ∷ []

both_attach_a : rpc_of version.Three at_a (end_run terms attached).a.items ≡ Some []
both_attach_a = refl

both_attach_b : rpc_of version.Three at_b (end_run terms attached).b.items ≡ Some []
both_attach_b = refl

-- A asks for m
abbrev ask : rpc.RpcCall
ask = rpc.Ask (109 ∷ []) (arguments.List []) Plain

abbrev asked : List EndStep
asked = attached ++ Calls A (OfConnection at_a ask) ∷ []

-- the request lies on its way
not_yet : outcome_on false version.Three at_a 1 (end_run terms asked).a.items ≡ NotYet
unfolding head_text
not_yet = refl

-- the two connections share the channel from its first byte, and what A said there is a message of the code
abbrev request : Message
request = message.Request (Number (pos 1)) (109 ∷ []) (params.List [])

terms_at_a : terms_of at_a (end_run terms asked).a.items ≡ form
unfolding head_text
terms_at_a = refl

terms_at_b : terms_of at_b (end_run terms asked).b.items ≡ form
terms_at_b = refl

shared : IsShared version.Three at_b (end_run terms asked).b.items (end_run terms asked).a.items
unfolding head_text
shared = record { reader = refl; writer = refl; same_terms = terms_at_b ∙ sym terms_at_a; nothing_read = refl; nothing_written = refl }

said : said_on version.Three at_a (end_run terms asked).a.items ≡ request ∷ []
unfolding head_text
said = refl

are_messages : AreMessages (request ∷ [])
unfolding is_utf8 chars encode
are_messages = (
  record {
    can_be_told = refl;
    value = (IsUtf8-from_is_utf8 _ refl, IsUtf8-from_is_utf8 _ refl, (IsUtf8-from_is_utf8 _ refl, one, (IsUtf8-from_is_utf8 _ refl, IsUtf8-from_is_utf8 _ refl, (IsUtf8-from_is_utf8 _ refl, tt, tt))));
  },
  tt,
)
  where
    one : IsWhole (pos 1)
    one = (omega (arith, ints), omega (arith, ints))

-- a part of it is no message
partly : rpc_of version.Three at_b (end_run terms (asked ++ Delivers B 10 ∷ [])).b.items ≡ Some []
unfolding front head_text
partly = refl

-- the whole one is, in any pieces
took : rpc_of version.Three at_b (end_run terms (asked ++ Delivers B 20 ∷ Delivers B 1000 ∷ [])).b.items ≡ Some (rpc.Got 4 request ∷ [])
unfolding front head_text pack.front head_at token_at inner_at field_at bytes_at lettered run_at text_at cut_head key_at repeat pair_at behind value_at items_at pairs_at is_utf8 chars encode
took = refl

-- B answers with 5; a second answer is refused, as nothing waits
abbrev respond : (value : ℕ) → rpc.RpcCall
respond value = rpc.Respond (Number (pos 1)) (answer.Value (count_value value))

abbrev answered : List EndStep
answered = asked ++ Delivers B 1000 ∷ Calls B (OfConnection at_b (respond 5)) ∷ Calls B (OfConnection at_b (respond 6)) ∷ []

one_answer : rpc_of version.Three at_b (end_run terms answered).b.items ≡ Some (rpc.Did (respond 5) ∷ rpc.Got 4 request ∷ [])
unfolding front head_text pack.front head_at token_at inner_at field_at bytes_at lettered run_at text_at cut_head key_at repeat pair_at behind value_at items_at pairs_at is_utf8 chars encode
one_answer = refl

-- the whole reply, and the end after it: the reply counts
known : outcome_on false version.Three at_a 1 (end_run terms (answered ++ Delivers A 1000 ∷ Ends A ∷ [])).a.items ≡ Known (Replied (count_value 5))
unfolding front head_text pack.front head_at token_at inner_at field_at bytes_at lettered run_at text_at cut_head key_at repeat pair_at behind value_at items_at pairs_at is_utf8 chars encode
known = refl

-- the end in the midst of it
lost : outcome_on false version.Three at_a 1 (end_run terms (answered ++ Delivers A 20 ∷ Ends A ∷ [])).a.items ≡ Known Lost
unfolding front head_text pack.front head_at token_at inner_at field_at bytes_at lettered run_at text_at cut_head key_at repeat pair_at behind value_at items_at pairs_at is_utf8 chars encode
lost = refl

-- A offers an object with a request. Both sides release its handle, and then hear that the other did: at each it was released once
abbrev released : List EndStep
released = attached
    ++ Calls A (OfConnection at_a (rpc.Ask (109 ∷ []) (arguments.List (arg.Object 7 Explicit ∷ [])) Plain))
    ∷ Delivers B 1000
    ∷ Delivers A 1000
    ∷ Calls A (OfConnection at_a (rpc.Release (own_key 1)))
    ∷ Calls B (OfConnection at_b (rpc.Release (peer_key 1)))
    ∷ Delivers A 1000
    ∷ Delivers B 1000
    ∷ []

once_at_a : releases_of (own_key 1) (items_of (rpc_of version.Three at_a (end_run terms released).a.items)) ≡ 1
unfolding front head_text pack.front head_at token_at inner_at field_at bytes_at lettered run_at text_at cut_head key_at repeat pair_at behind value_at items_at pairs_at is_utf8 chars encode shortest.flag_byte
once_at_a = refl

once_at_b : releases_of (peer_key 1) (items_of (rpc_of version.Three at_b (end_run terms released).b.items)) ≡ 1
unfolding front head_text pack.front head_at token_at inner_at field_at bytes_at lettered run_at text_at cut_head key_at repeat pair_at behind value_at items_at pairs_at is_utf8 chars encode shortest.flag_byte
once_at_b = refl
