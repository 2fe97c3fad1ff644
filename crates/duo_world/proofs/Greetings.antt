-- What an end that isn't ready makes of the bytes that it was given.
use Rattle.std.specs.Prelude.{true, false}
use Rattle.std.specs.Str.{bytes_eq}
use Rattle.std.proofs.Common.{◌≡◌, ◌≢◌, ℕ, ◌-◌, ◌≤◌, ◌<◌, List, ◌++◌, length, take, drop, sym, ◌∙◌, ap, arith}
use Rattle.std.proofs.lemmas.Bool.{or_parts}
use Rattle.std.proofs.lemmas.Bool.Decides.{not_from_Decides}
use Rattle.std.proofs.lemmas.Slice.Eq.{bytes_eq-Decides}
use Rattle.wire_base.specs.declared.frame.Version.{Version}
use Rattle.wire_base.specs.declared.frame.Version.TheVariants as version
use Rattle.wire_base.specs.declared.reason.Reason.TheVariants as reason
use Rattle.frame_text.specs.Hello.{hello}
use Rattle.mux_items.specs.Bodies.{frame_texts, is_three}
use Rattle.mux_items.specs.Items.{Item, greeting}
use Rattle.mux_items.specs.Due.{sent}
use Rattle.mux_items.specs.Parties.{party_by}
use Rattle.mux_items.specs.Refusals.{is_ready, is_greeted}
use Rattle.mux_handshake.specs.Handshake.{handshake, Whole, Short, Broken}
use Rattle.mux_run.specs.Run.{RunSide, SideTerms, out, greeting_size}
use Rattle.mux_run.proofs.Streams.{stream_short, stream_front}
use Rattle.duo_world.specs.Holding.{rest_of, HaveNonces}
use Rattle.duo_world.proofs.Settling.{given_side, place_unready}
use Rattle.mux_handshake.proofs.Hellos.{other_hello, same_hello, hello_cut}

-- an end of version 3 is ready
not_three : (v : Version) (items : List Item) → is_ready v items ≡ false → v ≢ version.Three
not_three v items e = λ three. by (sym (ap is_three three) ∙ (or_parts (is_three v) (is_greeted (greeting items)) e).0)
  where
    by : true ≡ false → ⊥
    by e = cc

-- the bytes that it was given begin with the peer's hello, or are a front of it

unapplied : (w : SideTerms) (d : ℕ) (items : List Item) (y : RunSide) → is_ready w.version items ≡ false → rest_of w (given_side items d) y ≡ take d (out w.version w.peer y.items)
unapplied w d items y e = ap (λ n. drop n (take d (out w.version w.peer y.items))) (place_unready w (given_side items d) y e)

whole_hello : (w : SideTerms) (d : ℕ) (items : List Item) (y : RunSide) → is_ready w.version items ≡ false → greeting_size w ≤ d
    → rest_of w (given_side items d) y ≡ hello w.version w.peer ++ take (d - greeting_size w) (frame_texts w.version (sent w.version y.items))
whole_hello w d items y e h = unapplied w d items y e ∙ stream_front w d y h

-- nonces that differ tell the party
pub greets_with : (w : SideTerms) (d : ℕ) (items : List Item) (y : RunSide) → HaveNonces w → is_ready w.version items ≡ false → greeting_size w ≤ d → bytes_eq w.own w.peer ≡ false
    → handshake w.version w.own (rest_of w (given_side items d) y) ≡ Whole (party_by w.own w.peer) (greeting_size w)
greets_with w d items y n e h differ =
    ap (handshake w.version w.own) (whole_hello w d items y e h)
    ∙ other_hello w.version w.own w.peer (take (d - greeting_size w) (frame_texts w.version (sent w.version y.items))) (not_three w.version items e) n.peer
    (not_from_Decides (bytes_eq w.own w.peer) (bytes_eq-Decides w.own w.peer) differ)

-- those that are the same are refused
pub greets_same : (w : SideTerms) (d : ℕ) (items : List Item) (y : RunSide) → HaveNonces w → is_ready w.version items ≡ false → greeting_size w ≤ d → bytes_eq w.own w.peer ≡ true
    → handshake w.version w.own (rest_of w (given_side items d) y) ≡ Broken (greeting_size w - length w.peer) reason.SameNonce
greets_same w d items y n e h same =
    let is : w.own ≡ w.peer = (bytes_eq-Decides w.own w.peer).0 same in
    let more = take (d - greeting_size w) (frame_texts w.version (sent w.version y.items)) in
    ap (handshake w.version w.own) (whole_hello w d items y e h)
    ∙ (ap (λ own. handshake w.version own (hello w.version w.peer ++ more)) is
    ∙ (same_hello w.version w.peer more (not_three w.version items e) n.peer ∙ ap (λ k. Broken (greeting_size w - k) reason.SameNonce) (sym n.peer)))

-- less than the hello is too few bytes to tell
pub greets_short : (w : SideTerms) (d : ℕ) (items : List Item) (y : RunSide) → HaveNonces w → is_ready w.version items ≡ false → d < greeting_size w → handshake w.version w.own (rest_of w (given_side items d) y) ≡ Short
greets_short w d items y n e h =
    ap (handshake w.version w.own) (unapplied w d items y e ∙ stream_short w d y (omega arith))
    ∙ hello_cut w.version w.own w.peer d (not_three w.version items e) n.peer h
