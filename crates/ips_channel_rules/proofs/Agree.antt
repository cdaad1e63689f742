-- The channel that counts in words of 32 bits and keeps only what waits agrees with the simple one, whatever is called. Assumes nothing.
use Rattle.std.specs.Prelude.{Option, Some, None}
use Prim.Native.Nat.{ℕ, ◌^◌, ◌<◌}
use mathlib.Core.Bool.{Bool, true, false, cond}
use mathlib.Core.List.{List, [], ◌∷◌, ◌++◌, map, tail}
use mathlib.Core.Path.{◌≡◌, refl, sym, ap, subst, ◌∙◌}
use lib.Dec.{T}
use borrow.Author.Tests.{lt-ltb, le-ltb}
use Rattle.facts.proofs.Tests.{by_le}
use Rattle.quantity.specs.declared.count.FlowSequence.{FlowSequence}
use Rattle.quantity.specs.declared.count.ByteCount.{ByteCount}
use Rattle.quantity.specs.Window.{sequence_at}
use Rattle.quantity.proofs.Window.{fits_is, stands_on, standing_stands, advance_is, sequence_start}
use Rattle.meaning.specs.declared.message.Window.{Window}
use Rattle.store.specs.Packets.{Packet, lasts_at, lasting, alive, is_full}
use Rattle.flow.specs.declared.Flow.{Flow}
use Rattle.flow.specs.Counting.{may_go, sequence_on, carried_by, flow_after}
use Rattle.ips_channel_rules.specs.Rules.{Event, Terms, Condition, step, happens, history, final}
use Rattle.ips_channel_rules.specs.Machine.{WordCounter, machine, fresh_machine}
use Rattle.ips_channel_rules.specs.Simple.{Limit, free, none, Counter, fits_below, count_on, carried_at, limit_at, waits, withdrawn, Entry, is_waiting, having, become, due, send_first, simple, fresh_simple}
use Rattle.ips_channel_rules.specs.Agreement.{SameFlow, both_free, both_none, both_in_force, Agrees}
use Rattle.ips_channel_rules.proofs.Entries.{entry, by_entry}
use Rattle.ips_channel_rules.proofs.Alike.{Alike, Related, related, step_same, happens_same, history_same, final_same}

-- ---- counting

-- the part of `Agrees` that is about counting
record Counts (m : WordCounter) (x : Counter) : Type 0 where
  pub sequence : m.sequence ≡ sequence_at x.count
  pub flow : SameFlow x.count m.flow x.limit

module _ (c : ℕ) (n : ByteCount) where
  fits_flow : (f : Flow) (l : Limit) → SameFlow c f l → may_go f (sequence_at c) n ≡ fits_below c l n.0
  fits_flow _ _ both_free = refl
  fits_flow _ _ both_none = refl
  fits_flow _ _ (both_in_force {window} {number} h) = fits_is c window n number h

  -- what is counted; a window goes on standing for its number
  grow_flow : (f : Flow) (l : Limit) → SameFlow c f l → may_go f (sequence_at c) n ≡ true
      → Counts (record { flow = f; sequence = sequence_on f (sequence_at c) n }) (record { count = count_on c l n.0; limit = l })
  grow_flow _ _ both_free t = record { sequence = refl; flow = both_free }
  grow_flow _ _ both_none t = record { sequence = refl; flow = both_none }
  grow_flow _ _ (both_in_force {window} {number} h) t =
      record { sequence = advance_is c n; flow = both_in_force (stands_on c window n number h (subst T (sym t ∙ fits_is c window n number h) tt)) }

carried_flow : (c : ℕ) (f : Flow) (l : Limit) → SameFlow c f l → carried_by f (sequence_at c) ≡ carried_at c l
carried_flow c _ _ both_free = refl
carried_flow c _ _ both_none = refl
carried_flow c _ _ (both_in_force h) = refl

-- "the number a window stands for is fixed when the window arrives"
hear_flow : (c : ℕ) (w : Option Window) → SameFlow c (flow_after w) (limit_at c w)
hear_flow c None = both_free
hear_flow c (Some Window.Empty) = both_none
hear_flow c (Some (Window.Given w)) = both_in_force (standing_stands c w)

module _ (m : WordCounter) (x : Counter) (h : Counts m x) where
  fits_counts : (n : ByteCount) → machine.fits m n ≡ simple.fits x n
  fits_counts n = rw h.sequence (fits_flow x.count n _ _ h.flow)

  grow_counts : (n : ByteCount) → machine.fits m n ≡ true → Counts (machine.grow n m) (simple.grow n x)
  grow_counts n t = rw h.sequence (grow_flow x.count n _ _ h.flow (rw h.sequence at t))

  carried_counts : machine.carried m ≡ simple.carried x
  carried_counts = rw h.sequence (carried_flow x.count _ _ h.flow)

  hear_counts : (w : Option Window) → Counts (machine.hear w m) (simple.hear w x)
  hear_counts w = record { sequence = h.sequence; flow = hear_flow x.count w }

-- ---- what waits

-- "every packet .. whose expiry is at or before the time given is expired": what lasts is what goes on waiting
expire_waiting : (time : ℕ) (es : List Entry) → alive time (having is_waiting es) ≡ having is_waiting (map (become (due time)) es)
unfolding lasting
expire_waiting time =
    by_entry (λ es. alive time (having is_waiting es) ≡ having is_waiting (map (become (due time)) es)) refl
    (λ p es h. lasts p _ _ h) (λ p es h. h) (λ p es h. h) (λ p es h. h)
  where
    lasts : (p : Packet) (ps qs : List Packet) → ps ≡ qs → cond (lasts_at time p.expiry) (p ∷ ps) ps ≡ cond (is_waiting (due time p)) (p ∷ qs) qs
    lasts p ps qs h = by_le p.expiry time (λ l. rw (le-ltb time p.expiry l) h) (λ l. rw (lt-ltb time p.expiry l, h))

join_waiting : (p : Packet) (es : List Entry) → having is_waiting es ++ (p ∷ []) ≡ having is_waiting (es ++ (entry p waits ∷ []))
join_waiting p =
    by_entry (λ es. having is_waiting es ++ (p ∷ []) ≡ having is_waiting (es ++ (entry p waits ∷ []))) refl
    (λ q es h. rw h) (λ q es h. h) (λ q es h. h) (λ q es h. h)

send_waiting : (es : List Entry) → tail (having is_waiting es) ≡ having is_waiting (send_first es)
send_waiting = by_entry (λ es. tail (having is_waiting es) ≡ having is_waiting (send_first es)) refl (λ p es h. refl) (λ p es h. h) (λ p es h. h) (λ p es h. h)

clear_waiting : (es : List Entry) → [] ≡ having is_waiting (map (become (λ p. withdrawn)) es)
clear_waiting = by_entry (λ es. [] ≡ having is_waiting (map (become (λ p. withdrawn)) es)) refl (λ p es h. h) (λ p es h. h) (λ p es h. h) (λ p es h. h)

-- ---- the two are alike
abbrev alike : Alike machine simple
alike =
    record {
      Counts = Counts;
      Keeps = λ ps es. ps ≡ having is_waiting es;
      fits_same = fits_counts;
      grow_on = grow_counts;
      carried_same = carried_counts;
      hear_on = hear_counts;
      waiting_same = λ ps es r. r;
      expire_on = λ ps es r time. ap (alive time) r ∙ expire_waiting time es;
      join_on = λ ps es r p. ap (λ (l : List Packet). l ++ (p ∷ [])) r ∙ join_waiting p es;
      send_on = λ ps es r. ap tail r ∙ send_waiting es;
      clear_on = λ ps es r. clear_waiting es;
      longest_same = λ k. refl;
      full_same = λ k ps es r p. ap (λ (l : List Packet). is_full k.size l p) r;
    }

agrees : (c : Condition machine) (s : Condition simple) → Related alike c s → Agrees c s
agrees _ _ (related m r) = record { sequence = m.sequence; flow = m.flow; waiting = r; status = refl; latest = refl }

agreed : (c : Condition machine) (s : Condition simple) → Agrees c s → Related alike c s
agreed c s h =
    subst (λ (y : Option ℕ). Related alike c (record { counting = s.counting; keeping = s.keeping; status = y; latest = s.latest })) h.status
    (subst (λ (t : ℕ). Related alike c (record { counting = s.counting; keeping = s.keeping; status = c.status; latest = t })) h.latest
    (related (record { sequence = h.sequence; flow = h.flow }) h.waiting))

-- ---- from conditions that agree the same happens, and again conditions that agree are left
module _ (k : Terms) where
  -- one event
  pub agrees_step : (e : Event) (c : Condition machine) (s : Condition simple) → Agrees c s → Agrees (step machine k e c) (step simple k e s)
  agrees_step e c s h = agrees _ _ (step_same alike k e c s (agreed c s h))

  pub agrees_happens : (e : Event) (c : Condition machine) (s : Condition simple) → Agrees c s → happens machine k e c ≡ happens simple k e s
  agrees_happens e c s h = happens_same alike k e c s (agreed c s h)

  module _ (es : List Event) (c : Condition machine) (s : Condition simple) (h : Agrees c s) where
    -- any events
    pub agrees_history : history machine k es c ≡ history simple k es s
    agrees_history = history_same alike k es c s (agreed c s h)

    pub agrees_final : Agrees (final machine k es c) (final simple k es s)
    agrees_final = agrees _ _ (final_same alike k es c s (agreed c s h))

-- ---- from a fresh start

first_flow_lem : (controlled : Bool) (count : ℕ) → SameFlow count (cond controlled Flow.NoWindow Flow.Free) (cond controlled none free)
first_flow_lem true count = both_none
first_flow_lem false count = both_free

-- "The count that never wraps starts as the configured first sequence"
pub fresh_agrees : (controlled : Bool) (first : FlowSequence) → first.0 < 2 ^ 32 → Agrees (fresh_machine controlled first) (fresh_simple controlled first)
fresh_agrees controlled first small = record { sequence = sym (sequence_start first small); flow = first_flow_lem controlled first.0; waiting = refl; status = refl; latest = refl }

module _ (k : Terms) (first : FlowSequence) (small : first.0 < 2 ^ 32) (es : List Event) where
  -- demand 3: whatever is called, every answer is the simple channel's
  pub same_history : history machine k es (fresh_machine k.controlled first) ≡ history simple k es (fresh_simple k.controlled first)
  same_history = agrees_history k es _ _ (fresh_agrees k.controlled first small)

  -- and where they end agrees: the sequence is the count's low 32 bits, the window stands for the number, what waits is what the ledger has waiting
  pub same_end_lem : Agrees (final machine k es (fresh_machine k.controlled first)) (final simple k es (fresh_simple k.controlled first))
  same_end_lem = agrees_final k es _ _ (fresh_agrees k.controlled first small)
