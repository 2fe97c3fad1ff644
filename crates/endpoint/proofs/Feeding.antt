-- What an end with connections makes of a piece that is fed.
use Rattle.std.specs.Prelude.{◌+◌, ◌≤◌, ◌++◌, length, Bool, true, false, None, Result, Ok, Err}
use Rattle.std.proofs.Common.{◌≡◌, ℕ, List, refl, sym, ap, subst, arith, length-append}
use Rattle.std.proofs.lemmas.Bool.{ltb-false}
use Rattle.wire_base.specs.declared.out_of_memory.OutOfMemory.{OutOfMemory}
use Rattle.wire_base.specs.declared.state.Cause.{Cause}
use Rattle.wire_base.specs.declared.state.Cause.TheVariants as cause
use Rattle.wire_base.specs.declared.state.EndState.{EndState}
use Rattle.wire_base.specs.declared.state.EndState.TheVariants as state
use Rattle.mux_items.specs.Items.{Item, ended}
use Rattle.mux_items.specs.Limits.{most_bytes}
use Rattle.mux_end.specs.Replies as mux
use Rattle.mux_end.specs.Stands.{EndValue}
use Rattle.endpoint_items.specs.Items.{EndItem}
use Rattle.endpoint_items.specs.Layers.{mux_of}
use Rattle.endpoint.specs.declared.attached.Attached.{Attached}
use Rattle.endpoint.specs.Changes.{each_ended, ended_with}
use Rattle.endpoint.specs.Replies.{FeedAnswers}
use Rattle.endpoint.specs.Stands.{Stands}
use Rattle.endpoint.specs.Value.{EndpointValue, value_in}
use Rattle.endpoint.proofs.Adding.{ends_all, stands_by}
use Rattle.endpoint.proofs.Running.{running_state}
use Rattle.endpoint.proofs.Sending.{unstopped}

module _ (m now : EndValue) (xs : List Attached) (stopped : Bool) (items : List EndItem) (at : ℕ) (rest piece : List ℕ) (s : Stands (value_in m xs stopped) items at rest) (runs : ended (mux_of m.version items) ≡ None) where
  abbrev old : EndpointValue
  old = value_in m xs stopped

  abbrev before : List Item
  before = mux_of m.version items

  unstops : stopped ≡ false
  unstops = unstopped stopped m before at rest s.mux s.state

  abbrev Fed : Result EndState OutOfMemory → Type 0
  Fed result = mux.FeedAnswers m now before at rest piece (ended before) (mux.is_spent at rest piece) result

  running : (result : Result EndState OutOfMemory) → Fed result → mux.FeedAnswers m now before at rest piece None (mux.is_spent at rest piece) result
  running result h = subst (λ o. mux.FeedAnswers m now before at rest piece o (mux.is_spent at rest piece) result) runs h

  -- more bytes than may be fed end it
  pub spent_answers : (why : Cause) → Fed (Ok (state.Ended why)) → FeedAnswers old (value_in now (each_ended why xs) stopped) items at rest piece (ended before) (mux.is_spent at rest piece) (Ok (state.Ended why))
  spent_answers why h = subst (λ o. FeedAnswers old (value_in now (each_ended why xs) stopped) items at rest piece o (mux.is_spent at rest piece) (Ok (state.Ended why))) (sym runs) (by (mux.is_spent at rest piece) (running (Ok (state.Ended why)) h))
    where
      by : (spent : Bool) → mux.FeedAnswers m now before at rest piece None spent (Ok (state.Ended why)) → FeedAnswers old (value_in now (each_ended why xs) stopped) items at rest piece None spent (Ok (state.Ended why))
      by false h = absurd (cc h.0)
      by true h =
          let is : why ≡ cause.Spent = cc h.0 in
          (h.0, ends_all old (value_in now (each_ended why xs) stopped) items at rest cause.Spent s h.1 (ap (λ c. each_ended c xs) is) (running_state stopped now unstops))

  -- others are kept
  pub kept_answers : (told : EndState) → ((why : Cause) → told ≡ state.Ended why → ⊥) → Fed (Ok told) → FeedAnswers old (value_in now xs stopped) items at rest piece (ended before) (mux.is_spent at rest piece) (Ok told)
  kept_answers told goes h = subst (λ o. FeedAnswers old (value_in now xs stopped) items at rest piece o (mux.is_spent at rest piece) (Ok told)) (sym runs) (by (mux.is_spent at rest piece) refl (running (Ok told) h))
    where
      by : (spent : Bool) → mux.is_spent at rest piece ≡ spent → mux.FeedAnswers m now before at rest piece None spent (Ok told) → FeedAnswers old (value_in now xs stopped) items at rest piece None spent (Ok told)
      by true e h = absurd (goes cause.Spent h.0)
      by false e h =
          let within : at + length rest + length piece ≤ most_bytes = ltb-false most_bytes (at + length rest + length piece) e in (
            h.0,
            record {
              stands = stands_by m.version (value_in now xs stopped) items at (rest ++ piece) h.1.terms.version (record {
                mux = h.1.stands;
                state = running_state stopped now unstops;
                connections = s.connections;
                keys = s.keys;
                allowed = s.allowed;
                taken_within = s.taken_within;
                fed_within = omega (arith, within, length-append rest piece);
              });
              output = h.1.output;
              terms = h.1.terms;
            },
          )

  pub fed_answers : (told : EndState) → Fed (Ok told) → FeedAnswers old (value_in now (ended_with told xs) stopped) items at rest piece (ended before) (mux.is_spent at rest piece) (Ok told)
  fed_answers state.Running h = kept_answers state.Running (λ why e. absurd (cc e)) h
  fed_answers (state.Ended why) h = spent_answers why h
  fed_answers state.Stopped h = kept_answers state.Stopped (λ why e. absurd (cc e)) h

  -- want of memory
  pub starved_answers : (new : EndpointValue) (error : OutOfMemory) → new.state ≡ state.Stopped → Fed (Err error) → FeedAnswers old new items at rest piece (ended before) (mux.is_spent at rest piece) (Err error)
  starved_answers new error e h = subst (λ o. FeedAnswers old new items at rest piece o (mux.is_spent at rest piece) (Err error)) (sym runs) (by (mux.is_spent at rest piece) (running (Err error) h))
    where
      by : (spent : Bool) → mux.FeedAnswers m now before at rest piece None spent (Err error) → FeedAnswers old new items at rest piece None spent (Err error)
      by false h = e
      by true h = absurd h
