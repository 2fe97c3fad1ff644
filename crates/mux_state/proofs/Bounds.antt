-- What always holds of the channels that an end keeps.
use Rattle.std.specs.Prelude.{ℕ, ◌*◌, List, [], ◌∷◌, Bool, true, false, if◌then◌else◌, Some, None}
use Rattle.std.proofs.Common.{◌≡◌, ◌≤◌, refl, sym, ◌∙◌, ap, subst, arith}
use Rattle.wire_base.specs.declared.frame.Version.{Version}
use Rattle.mux_items.specs.declared.channel.ChannelKey.{ChannelKey}
use Rattle.mux_items.specs.declared.channel.Tally.{Tally}
use Rattle.mux_items.specs.declared.party.Party.{Party}
use Rattle.mux_items.specs.declared.party.Party.TheVariants.{Odd, Even, Neither}
use Rattle.mux_items.specs.Items.{Item, DidOffer, party_of}
use Rattle.mux_items.specs.Limits.{most_offers}
use Rattle.mux_items.specs.Kept.{is_known, is_kept, own_offers, own_id}
use Rattle.mux_items.specs.Applying.{Allowed}
use Rattle.mux_items.proofs.Applied.{allowed_tail}
use Rattle.mux_items.proofs.Offered.{own_bound}
use Rattle.mux_items.proofs.Permits.{offer_permits}
use Rattle.mux_state.specs.State.{ChannelState, channel_at}
use Rattle.mux_state.specs.Tests.{stays_kept, tally_in}
use Rattle.mux_state.specs.Book.{Kept, Gone, AreApart, book_of, found, has_offer, own_count, known_in}
use Rattle.mux_state.proofs.Orders.{known_apart}
use Rattle.mux_state.proofs.Refusing.{kept_by_state}
use Rattle.mux_state.proofs.Books.{found_is, has_offer_is, known_by_book, own_count_is}

offers_within : (v : Version) (items : List Item) → Allowed v items → own_offers items ≤ most_offers
offers_within v [] ok = omega arith
offers_within v (DidOffer key name size ∷ items) ok = (offer_permits v name size items ok.0).more
offers_within v (item ∷ items) ok = omega (arith, offers_within v items (allowed_tail v item items ok))

id_within : (party : Party) (n : ℕ) → own_id party n ≤ 2 * n
id_within Odd n = omega arith
id_within Even n = omega arith
id_within Neither n = omega arith

pub offers_in_book : (v : Version) (items : List Item) → Allowed v items → own_count (book_of v items) ≤ most_offers
offers_in_book v items ok = omega (arith, own_count_is v items ok, offers_within v items ok)

pub ids_in_book : (v : Version) (c : ChannelKey) (items : List Item) → Allowed v items → c.own ≡ true → has_offer c (book_of v items) ≡ true → c.id ≤ 2 * most_offers
ids_in_book v c items ok own offered =
    omega (arith, own_bound v c items ok (sym (has_offer_is v c items) ∙ offered) own, id_within (party_of items) (own_offers items), offers_within v items ok)

pub apart_in_book : (v : Version) (items : List Item) → Allowed v items → AreApart (known_in (book_of v items))
apart_in_book v items ok = subst AreApart (known_by_book v items) (known_apart v items ok)

standing_kept : (known kept : Bool) (s now : ChannelState) (tally : Tally) → (if known then Some (if kept then Kept s else Gone tally) else None) ≡ Some (Kept now) → (known ≡ true) × (kept ≡ true) × (s ≡ now)
standing_kept true true s now tally e = (refl, refl, cc)
standing_kept true false s now tally e = absurd (cc)
standing_kept false kept s now tally e = absurd (cc)

pub kept_in_book : (v : Version) (c : ChannelKey) (now : ChannelState) (items : List Item) → found c (book_of v items) ≡ Some (Kept now) → stays_kept now ≡ true
kept_in_book v c now items e =
    let told = standing_kept (is_known c items) (is_kept v c items) (channel_at v c items) now (tally_in (channel_at v c items)) (sym (found_is v c items) ∙ e) in
    ap stays_kept (sym told.2) ∙ (sym (kept_by_state v c items told.0) ∙ told.1)
