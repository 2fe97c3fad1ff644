-- Worked values: which message comes next.
use Rattle.std.specs.Prelude.{[], ◌∷◌, ◌++◌, codes, take, Some, None}
use Rattle.std.proofs.Common.{◌≡◌, refl}
use Rattle.std.specs.Str.{is_utf8, chars}
use lib.Utf8.{encode}
use Rattle.wire_base.specs.declared.frame.Version.TheVariants as version
use Rattle.wire_base.specs.declared.reason.Reason.TheVariants as reason
use Rattle.wire_base.specs.Tokens.{head_at, token_at, inner_at, field_at, bytes_at}
use Rattle.wire_base.specs.Head.{lettered}
use Rattle.pack_value.specs.Answer as pack
use Rattle.pack_value.specs.Reading.{run_at, text_at, cut_head, key_at, repeat, pair_at, behind, value_at, items_at, pairs_at}
use Rattle.mux_items.specs.Bodies.{Content}
use Rattle.mux_items.specs.Items as mux
use Rattle.message_framing.specs.Front.{front}
use Rattle.message_framing.specs.Wrapped.{head_text}
use Rattle.rpc_end.specs.Texts.{message_text}
use Rattle.endpoint_items.specs.Items.{Mux, GotMessage, RefusedMessage}
use Rattle.endpoint_items.specs.Arriving.{next_message}
use Rattle.endpoint_items.proofs.Worked.{here, there, terms, request, reply, attached, came, replied, serves}

request_text : message_text terms request ≡ 0 ∷ 0 ∷ 0 ∷ 38 ∷ 132 ∷ 167 ∷ codes "jsonrpc" ++ 163 ∷ codes "2.0" ++ 162 ∷ codes "id" ++ 1 ∷ 166 ∷ codes "method" ++ 163 ∷ codes "add" ++ 166 ∷ codes "params" ++ 146 ∷ 2 ∷ 3 ∷ []
unfolding head_text
request_text = refl

nothing_next : next_message version.Three attached ≡ None
unfolding front
nothing_next = refl

reply_next : next_message version.Three came ≡ Some (GotMessage here 4 29 reply)
unfolding front head_text pack.front head_at token_at inner_at field_at bytes_at lettered run_at text_at cut_head key_at repeat pair_at behind value_at items_at pairs_at is_utf8 chars encode
reply_next = refl

none_left : next_message version.Three replied ≡ None
unfolding front head_text
none_left = refl

request_next : next_message version.Three serves ≡ Some (GotMessage there 4 42 request)
unfolding front head_text pack.front head_at token_at inner_at field_at bytes_at lettered run_at text_at cut_head key_at repeat pair_at behind value_at items_at pairs_at is_utf8 chars encode
request_next = refl

-- a part of a message is none
short : next_message version.Three (Mux (mux.Got 30 here (Content (take 10 (message_text terms reply)))) ∷ attached) ≡ None
unfolding front head_text
short = refl

refused_next : next_message version.Three (Mux (mux.Got 30 here (Content (0 ∷ 0 ∷ 0 ∷ 0 ∷ []))) ∷ attached) ≡ Some (RefusedMessage here 0 reason.BadLength)
unfolding front
refused_next = refl
