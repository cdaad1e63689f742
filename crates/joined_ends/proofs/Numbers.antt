-- What the numbers beside the ends are: of the calls that were made at each end, and of the windows that were written. Assumes nothing.
use Prim.Native.Nat.{ℕ, max}
use mathlib.Core.Path.{◌≡◌, refl, sym, ap, subst, ◌∙◌}
use mathlib.Core.List.Memᴰ
use mathlib.Core.List.{List, [], ◌∷◌, ◌++◌, map, append-nil, append_assoc}
use mathlib.Core.Logic.{inl}
use native.Mathlib.Omega.{arith}
use Rattle.quantity.specs.declared.count.FlowSequence.{FlowSequence}
use Rattle.radio_end_state.specs.State as radio
use Rattle.radio_end_run.specs.Run as station
use Rattle.ips_channel_rules.specs.Rules.{Event, Terms, Condition, final}
use Rattle.ips_channel_rules.specs.Simple.{simple}
use Rattle.ips_channel_rules.proofs.Leaves.{final_append}
use Rattle.ips_state.specs.Memory.{World}
use Rattle.ips_run.specs.Run.{Call, after, after_all, sees, sees_all}
use Rattle.ips_run.proofs.Whole.{sees_append}
use Rattle.radio_flow.specs.Numbers.{number_of, larger, number_after}
use Rattle.joined.specs.Net.{Heard, unheard, heard_to, after_hearing, Told, TopIs, Reach, stays, goes_on}
use Rattle.joined.proofs.Net.{top_more}
use Rattle.joined_ends.specs.Ends.{written_in, Down, Ends, down_as, heard_now, top_with, telling_of, heard_in, channel_after, Step, acts, calls, start}
use Rattle.joined_ends.proofs.Acting.{after_one}

states_one : (cs : List station.Call) (c : station.Call) (s : radio.State) → station.states_after (cs ++ (c ∷ [])) s ≡ station.state_after c (station.states_after cs s)
states_one [] c s = refl
states_one (d ∷ cs) c s = states_one cs c (station.state_after d s)

through_one : (cs : List station.Call) (c : station.Call) (s : radio.State) (id : ℕ)
    → station.heard_through (cs ++ (c ∷ [])) s id ≡ station.heard_through cs s id ++ station.heard_by c (station.states_after cs s) id
through_one [] c s id = append-nil (station.heard_by c s id)
through_one (d ∷ cs) c s id =
    ap (λ (l : List FlowSequence). station.heard_by d s id ++ l) (through_one cs c (station.state_after d s) id)
    ∙ sym (append_assoc (station.heard_by d s id) (station.heard_through cs (station.state_after d s) id) (station.heard_by c (station.states_after cs (station.state_after d s)) id))

now_append : (h : Heard) (ss ts : List FlowSequence) → heard_now h (ss ++ ts) ≡ heard_now (heard_now h ss) ts
now_append h [] ts = refl
now_append h (s ∷ ss) ts = now_append (after_hearing h s) ss ts

-- the number is the radio's own: it starts at the first word heard, and is the largest that the later words stood for
number_on : (n : ℕ) (ss : List FlowSequence) → heard_now (heard_to n) ss ≡ heard_to (number_after n ss)
number_on n [] = refl
number_on n (s ∷ ss) = number_on (larger n (number_of n s)) ss

pub number_is : (first : FlowSequence) (later : List FlowSequence) → heard_now unheard (first ∷ later) ≡ heard_to (number_after first.0 later)
number_is first later = number_on first.0 later

module _ (k : Terms) (j : ℕ) where
  -- the calls of each end, in order
  abbrev pub made_by : {x y : Ends} → Reach (Step k j) x y → List Call
  made_by (stays x) = []
  made_by (goes_on x _ _ r (acts y c may)) = made_by r ++ (c ∷ [])
  made_by (goes_on x _ _ r (calls y c may bound)) = made_by r

  abbrev pub called_by : {x y : Ends} → Reach (Step k j) x y → List station.Call
  called_by (stays x) = []
  called_by (goes_on x _ _ r (acts y c may)) = called_by r
  called_by (goes_on x _ _ r (calls y c may bound)) = called_by r ++ (c ∷ [])

  -- the endpoint is where its calls lead, and the life beside it is the simple channel's on what the channel saw
  pub world_made : {x y : Ends} (r : Reach (Step k j) x y) → y.world ≡ after_all (made_by r) x.world
  world_made (stays x) = refl
  world_made (goes_on x _ _ r (acts y c may)) = ap (after c) (world_made r) ∙ sym (after_one (made_by r) c x.world)
  world_made (goes_on x _ _ r (calls y c may bound)) = world_made r

  pub life_made : {x y : Ends} (r : Reach (Step k j) x y) → y.watched.life ≡ final simple k (sees_all k.id (made_by r) x.world) x.watched.life
  life_made (stays x) = refl
  life_made (goes_on x _ _ r (acts y c may)) =
      let cs = made_by r in
      let all : sees_all k.id (cs ++ (c ∷ [])) x.world ≡ sees_all k.id cs x.world ++ sees k.id c y.world =
      sees_append k.id cs (c ∷ []) x.world ∙ ap (λ (l : List Event). sees_all k.id cs x.world ++ l) (append-nil (sees k.id c (after_all cs x.world)) ∙ ap (λ (w : World). sees k.id c w) (sym (world_made r))) in
      ap (final simple k (sees k.id c y.world)) (life_made r) ∙ sym (final_append simple k (sees_all k.id cs x.world) (sees k.id c y.world) x.watched.life)
      ∙ ap (λ (l : List Event). final simple k l x.watched.life) (sym all)
  life_made (goes_on x _ _ r (calls y c may bound)) = life_made r

  -- the radio's end is where its calls lead, and the number beside it is that of the words it heard
  pub station_called : {x y : Ends} (r : Reach (Step k j) x y) → y.station ≡ station.states_after (called_by r) x.station
  station_called (stays x) = refl
  station_called (goes_on x _ _ r (acts y c may)) = station_called r
  station_called (goes_on x _ _ r (calls y c may bound)) = ap (station.state_after c) (station_called r) ∙ sym (states_one (called_by r) c x.station)

  pub heard_called : {x y : Ends} (r : Reach (Step k j) x y) → y.watched.heard ≡ heard_now x.watched.heard (station.heard_through (called_by r) x.station k.id)
  heard_called (stays x) = refl
  heard_called (goes_on x _ _ r (acts y c may)) = heard_called r
  heard_called (goes_on x _ _ r (calls y c may bound)) =
      let ss = station.heard_through (called_by r) x.station k.id in
      ap (λ (h : Heard). heard_now h (station.heard_by c y.station k.id)) (heard_called r)
      ∙ ap (λ (s : radio.State). heard_now (heard_now x.watched.heard ss) (station.heard_by c s k.id)) (station_called r)
      ∙ sym (now_append x.watched.heard ss (station.heard_by c (station.states_after (called_by r) x.station) k.id))
      ∙ ap (heard_now x.watched.heard) (sym (through_one (called_by r) c x.station k.id))

  -- ---- `top` is the highest window ever written: none reaches further, and one of them reaches it, where there is any
  abbrev pub told_of : Down → Told
  told_of d = d.told

  again : (top reach : ℕ) → max (max top reach) reach ≡ max top reach
  again top reach = omega arith

  written_top : (t : Told) (ds : List Down) (top : ℕ) (es : List (List ℕ)) → TopIs (map told_of ds) top → TopIs (map told_of (map (down_as t) es ++ ds)) (top_with es t.reaches top)
  written_top t ds top [] h = h
  written_top t ds top (e ∷ []) h = top_more t (map told_of ds) top h
  written_top t ds top (e ∷ (f ∷ es)) h =
      subst (TopIs (map told_of (map (down_as t) (e ∷ (f ∷ es)) ++ ds))) (again top t.reaches)
      (top_more t (map told_of (map (down_as t) (f ∷ es) ++ ds)) (max top t.reaches) (written_top t ds top (f ∷ es) h))

  pub top_of : {x y : Ends} → Reach (Step k j) x y → TopIs (map told_of x.watched.downs) x.watched.top → TopIs (map told_of y.watched.downs) y.watched.top
  top_of (stays x) h = h
  top_of (goes_on x _ _ r (acts y c may)) h = top_of r h
  top_of (goes_on x _ _ r (calls y c may bound)) h =
      written_top (telling_of (heard_in k c y) (channel_after j c y) y.watched) y.watched.downs y.watched.top (written_in (station.after_call c y.station)) (top_of r h)

  pub top_fresh : (w : World) (s : radio.State) (life : Condition simple) {y : Ends} → Reach (Step k j) (start w s life) y → TopIs (map told_of y.watched.downs) y.watched.top
  top_fresh w s life r = top_of r (record { none_above = λ t m. absurd (Memᴰ.not-nil m); one_of_them = inl refl })
