-- Between two ends no credit is lost.
use Rattle.std.specs.Prelude.{List, true, false}
use Rattle.std.proofs.Common.{◌≡◌, sym, ◌∙◌, ap, arith}
use Rattle.wire_base.specs.declared.frame.Version.{Version}
use Rattle.mux_items.specs.declared.channel.ChannelKey.{ChannelKey}
use Rattle.mux_items.specs.Bodies.{other_key, is_one}
use Rattle.mux_items.specs.Items.{Item, is_running}
use Rattle.mux_items.specs.Lists.{is_accepted, is_live, completion_emitted, termination_emitted}
use Rattle.mux_items.specs.Sums.{windows}
use Rattle.mux_items.proofs.Flips.{other_other}
use Rattle.mux_items.proofs.Staging.{stage_after, stage_at, is_open, is_wrong}
use Rattle.mux_items.proofs.Exact.{emitted_granted, granted-got}
use Rattle.mux_items.proofs.Live.{live_parts}
use Rattle.mux_items.proofs.Heard.{heard_at, accepted_unfresh}
use Rattle.mux_items.proofs.Order.{no_windows, by_right}
use Rattle.mux_run.specs.Between.{ahead, Between}
use Rattle.mux_run.proofs.Between.{turned_between}
use Rattle.mux_credit.specs.Credit.{CreditAddsUp, HasCredit}
use Rattle.mux_credit.proofs.Sums.{open_sum, room, owed}
use Rattle.mux_credit.proofs.Next.{stage_into}

-- the whole window came to y where the channel is accepted there

windows_came : (v : Version) (c : ChannelKey) (x y : List Item) → Between v x y → is_accepted v (other_key c) y ≡ true → windows c (ahead v y x) ≡ 0
windows_came v c x y b e =
    no_windows c (heard_at (other_key c) y) (ahead v y x) (accepted_unfresh v (other_key c) y b.allowed_peer e)
    (ap is_wrong (ap (λ k. stage_after k (heard_at (other_key c) y) (ahead v y x)) (sym (other_other c)) ∙ (stage_into v (other_key c) y x (turned_between v x y b) ∙ ap (λ k. stage_at v k x) (other_other c)))
    ∙ by_right (termination_emitted v c x) (completion_emitted v c x) (is_open v c x))

pub adds_up : (v : Version) (c : ChannelKey) (x y : List Item) → is_one v ≡ false → Between v x y → is_running x ≡ true → termination_emitted v c x ≡ false → is_live v (other_key c) y ≡ true → CreditAddsUp v c x y
adds_up v c x y two b runs heard live =
    let parts = live_parts (termination_emitted v (other_key c) y) (is_accepted v (other_key c) y) live in
    record {
      within = omega (arith, emitted_granted v (other_key c) y two, granted-got v (other_key c) y b.allowed_peer parts.0);
      sum = omega (arith, open_sum v c x y two b runs heard parts.0, windows_came v c x y b parts.1);
    }

pub has_credit : (v : Version) (c : ChannelKey) (x y : List Item) → Between v x y → HasCredit v c x y
has_credit v c x y b = record {
  adds_up = λ two runs heard live. adds_up v c x y two b runs heard live;
  room = λ two heard. room v c x y two b heard;
  paid = λ heard. owed v c x y b heard;
}
