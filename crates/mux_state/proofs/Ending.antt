-- Sending what is due comes to an end.
use Rattle.std.specs.Prelude.{ℕ, min, [], length, false, not, ◌&&◌, nat_lt, if◌then◌else◌}
use Rattle.std.proofs.Common.{◌≡◌, ◌≢◌, ◌<◌, ◌≤◌, inl, inr, refl, arith}
use Rattle.std.proofs.lemmas.Bool.{cases_Bool, cond_both, and_parts, not-true, ltb-true, ltb-false}
use Rattle.std.proofs.lemmas.List.{length-drop}
use Rattle.mux_items.specs.declared.channel.ChannelKey.{ChannelKey}
use Rattle.mux_items.specs.Limits.{piece_size}
use Rattle.mux_state.specs.declared.due.Due.{Due}
use Rattle.mux_state.specs.declared.due.Due.TheVariants as kind
use Rattle.mux_state.specs.State.{ChannelState}
use Rattle.mux_state.specs.Next.{sendable, is_done, settled, frames_due}
use Rattle.mux_state.specs.Emitting.{due_of, left_to_send, sent_state}
use Rattle.mux_state.proofs.Emits.{IsDry, nothing_due, sendable_bound}

-- where nothing is due all is sent, and else one frame less is left
pub record ComesToEnd (c : ChannelKey) (s : ChannelState) (d : Due) : Type 0 where
  pub settled : d ≡ kind.Nothing → settled s ≡ s
  pub silent : d ≡ kind.Nothing → frames_due c s ≡ []
  pub falls : d ≢ kind.Nothing → left_to_send (sent_state d s) < left_to_send s

falling : (c : ChannelKey) (s : ChannelState) (d : Due) → d ≢ kind.Nothing → left_to_send (sent_state d s) < left_to_send s → ComesToEnd c s d
falling c s d some less = record { settled = λ e. absurd (some e); silent = λ e. absurd (some e); falls = λ _. less }

piece_falls : (c : ChannelKey) (s : ChannelState) (n : ℕ) → 0 < n → n ≤ length s.pending → ComesToEnd c s (kind.Content n)
piece_falls c s n some le = falling c s (kind.Content n) (λ e. cc) (omega (arith, length-drop n s.pending))

completion_falls : (c : ChannelKey) (s : ChannelState) → s.completion_sent ≡ false → ComesToEnd c s kind.Completed
completion_falls c s e = falling c s kind.Completed (λ e. cc) (rw e (omega arith))

termination_falls : (c : ChannelKey) (s : ChannelState) → s.termination_sent ≡ false → ComesToEnd c s kind.Terminated
termination_falls c s e = falling c s kind.Terminated (λ e. cc) (rw e (omega arith))

nothing_ends : (c : ChannelKey) (s : ChannelState) → settled s ≡ s → frames_due c s ≡ [] → ComesToEnd c s kind.Nothing
nothing_ends c s e f = record { settled = λ _. e; silent = λ _. f; falls = λ some. absurd (some refl) }

dry_ends : (c : ChannelKey) (s : ChannelState) → IsDry s → ComesToEnd c s (if is_done s && not s.completion_sent then kind.Completed else if is_done s && s.completed then kind.Terminated else kind.Nothing)
dry_ends c s dry = elim (cases_Bool (is_done s && not s.completion_sent)) [
  | inl e ↦ rw e (completion_falls c s (not-true s.completion_sent (and_parts (is_done s) (not s.completion_sent) e).1))
  | inr e ↦ rw e (elim (cases_Bool (is_done s && s.completed)) [
    | inl f ↦ rw f (termination_falls c s dry.unsent)
    | inr f ↦ rw f (let told = nothing_due c s dry e f in nothing_ends c s told.0 told.1)
  ])
]

open_ends : (c : ChannelKey) (s : ChannelState) → s.termination_sent ≡ false → s.peer_terminated ≡ false
    → ComesToEnd c s (if nat_lt 0 (sendable s) then kind.Content (min piece_size (sendable s)) else if is_done s && not s.completion_sent then kind.Completed else if is_done s && s.completed then kind.Terminated else kind.Nothing)
open_ends c s e f = elim (cases_Bool (nat_lt 0 (sendable s))) [
  | inl more ↦ rw more (piece_falls c s (min piece_size (sendable s)) (omega (arith, ltb-true 0 (sendable s) more)) (omega (arith, sendable_bound s)))
  | inr none ↦ rw none (dry_ends c s (record { unsent = e; unpeered = f; none = omega (arith, ltb-false 0 (sendable s) none) }))
]

pub comes_to_end : (c : ChannelKey) (s : ChannelState) → ComesToEnd c s (due_of s)
comes_to_end c s =
    cond_both s.termination_sent kind.Nothing _ (ComesToEnd c s) (λ e. nothing_ends c s (rw e refl) (rw e refl))
    (λ e. cond_both s.peer_terminated kind.Terminated _ (ComesToEnd c s) (λ f. termination_falls c s e) (λ f. open_ends c s e f))
