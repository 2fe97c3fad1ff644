-- Where nothing is on its way and nothing is unread, all came.
use Rattle.std.specs.Prelude.{List, [], ◌++◌, length, take, map, true}
use Rattle.std.proofs.Common.{◌≡◌, sym, ◌∙◌, ap, arith}
use Rattle.std.proofs.lemmas.List.{append-nil, take_all}
use Rattle.wire_base.specs.declared.frame.Version.{Version}
use Rattle.mux_items.specs.declared.channel.ChannelKey.{ChannelKey}
use Rattle.mux_items.specs.Bodies.{other_key, flip}
use Rattle.mux_items.specs.Items.{Item, is_running}
use Rattle.mux_items.specs.Lists.{written, emitted, termination_emitted, taken, is_accepted, unread, is_live}
use Rattle.mux_items.specs.Due.{sent, got, contents}
use Rattle.mux_items.specs.Sums.{credits}
use Rattle.mux_items.proofs.Emission.{sent_front}
use Rattle.mux_items.proofs.Flips.{contents-flip}
use Rattle.mux_items.proofs.Taking.{taken_exact, handed_bound}
use Rattle.mux_items.proofs.Exact.{unread_is}
use Rattle.mux_items.proofs.Live.{accepted_window, live_parts, emits_all}
use Rattle.mux_run.specs.Between.{ahead, Between}
use Rattle.mux_credit.specs.Credit.{content_in_flight, acknowledgements_in_flight, IsDelivered}
use Rattle.mux_credit.proofs.Credit.{adds_up}

pub delivered : (v : Version) (c : ChannelKey) (x y : List Item) → Between v x y → is_running x ≡ true → is_running y ≡ true → ahead v x y ≡ [] → ahead v y x ≡ [] → unread v c x ≡ [] → is_live v c x ≡ true → is_live v (other_key c) y ≡ true → IsDelivered v c x y
delivered v c x y b runs runs_peer into back read live live_peer =
    let d = other_key c in
    let here = live_parts (termination_emitted v c x) (is_accepted v c x) live in
    let none : content_in_flight v c x y ≡ 0 = ap (λ fs. length (contents d fs)) into in
    let all : emitted v d y ≡ length (written d y) = emits_all v d y b.allowed_peer runs_peer live_peer (λ two.
    let adds = adds_up v c x y two b runs here.0 live_peer in
    let unacknowledged : acknowledgements_in_flight v c x y ≡ 0 = ap (credits c) back in
    omega (arith, adds.sum, none, unacknowledged, ap length read, accepted_window v c x b.allowed here.1)) in
    let front : contents d (sent v y) ≡ written d y = sent_front v d y ∙ (ap (λ n. take n (written d y)) all ∙ take_all (length (written d y)) (written d y) (omega arith)) in
    let came : contents d (sent v y) ≡ contents c (got x) =
    ap (contents d) (b.into ∙ ap (λ fs. map flip (got x) ++ fs) into) ∙ (ap (contents d) (append-nil (map flip (got x))) ∙ contents-flip c (got x)) in
    let took : taken v c x ≡ written d y = taken_exact v c x here.0 b.allowed ∙ (sym came ∙ front) in
    record {
      emitted = all;
      taken = took;
      handed = omega (arith, unread_is v c x here.0, ap length read, ap length took, handed_bound v c x);
    }
