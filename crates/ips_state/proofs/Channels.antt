-- Channels as a list: joined to others, one of them replaced, each by its place. Assumes nothing.
use Prim.Native.Nat.{ℕ, zero, suc, ◌+◌, ◌*◌, ◌≤◌, ◌<◌}
use mathlib.Core.Bool.{Bool, true, false, cond, not, ◌&&◌, and_assoc, and-eq-true_iff}
use mathlib.Core.List.{List, [], ◌∷◌, ◌++◌, map, map-append}
use mathlib.Core.Logic.{◌⊎◌, inl, inr, ⊎_elim}
use mathlib.Core.Path.{◌≡◌, refl, sym, ap, ◌∙◌}
use native.Mathlib.Decide.{ℕ_discrete}
use native.Mathlib.Omega.{arith}
use borrow.Author.Tests.{eq-eqb, ne_eqb, le-leb, lt-ltb, leb-true, ltb-true, not-true}
use lib.Dec.{leb, ltb}
use lib.ListN.{length, get_or, take, drop, set, length-append, length-map, get_or-map}
use lib.Seq.{split_at, get_or-append_seam, map-set_same}
use Rattle.facts.proofs.Tests.{clash}
use Rattle.quantity.specs.Limits.{RESERVED-CHANNEL, SMALLEST-STORE, LARGEST-STORE}
use Rattle.meaning.specs.Kinds.{among}
use Rattle.meaning.specs.declared.message.End.TheVariants as ends
use Rattle.writable.specs.Allowed.{status_allowed}
use Rattle.store.specs.Waiting.{well_formed}
use Rattle.ips_channel.specs.declared.state.Channel.{Channel}
use Rattle.ips_state.specs.State.{no_channel}
use Rattle.ips_state.specs.Limits.{setting_fits, flow_fits, channel_fits_under, channel_fits, all_fit_under, all_fit, ids, distinct, sizes, index_of}

pub same_or_not : (m n : ℕ) → (m ≡ n) ⊎ (m ≡ n → ⊥)
same_or_not m n = go (ℕ_discrete m n)
  where
    go : Dec (m ≡ n) → (m ≡ n) ⊎ (m ≡ n → ⊥)
    go (yes e) = inl e
    go (no f) = inr f

-- an element of a list that a function goes over
pub get_d_mapped : {A B : Type 0} (f : A → B) (xs : List A) (i : ℕ) (d : A) (e : B) → i < length xs → get_or (map f xs) i e ≡ f (get_or xs i d)
get_d_mapped f [] i d e h = absurd (omega arith)
get_d_mapped f (x ∷ xs) zero d e h = refl
get_d_mapped f (x ∷ xs) (suc i) d e h = get_d_mapped f xs i d e (omega arith)

-- ---- a number among others, and its index
module _ (n x : ℕ) (xs : List ℕ) where
  pub among_first : x ≡ n → among n (x ∷ xs) ≡ true
  among_first e = rw (eq-eqb n x (sym e))

  pub among_later : (x ≡ n → ⊥) → among n (x ∷ xs) ≡ among n xs
  among_later f = rw (ne_eqb n x (λ e. f (sym e)))

  pub index_first : x ≡ n → index_of n (x ∷ xs) ≡ 0
  unfolding index_of
  index_first e = rw (eq-eqb x n e)

  index_later : (x ≡ n → ⊥) → index_of n (x ∷ xs) ≡ suc (index_of n xs)
  unfolding index_of
  index_later f = rw (ne_eqb x n f)

pub among_join : (n : ℕ) (xs ys : List ℕ) → among n (xs ++ ys) ≡ cond (among n xs) true (among n ys)
among_join n [] ys = refl
among_join n (x ∷ xs) ys =
    ⊎_elim (λ e. rw (among_first n x (xs ++ ys) e, among_first n x xs e)) (λ f. rw (among_later n x (xs ++ ys) f, among_later n x xs f) (among_join n xs ys)) (same_or_not x n)

pub index_here : (n : ℕ) (xs ys : List ℕ) → among n xs ≡ true → index_of n (xs ++ ys) ≡ index_of n xs
index_here n [] ys h = clash h
index_here n (x ∷ xs) ys h =
    ⊎_elim (λ e. rw (index_first n x (xs ++ ys) e, index_first n x xs e))
    (λ f. rw (index_later n x (xs ++ ys) f, index_later n x xs f, index_here n xs ys (sym (among_later n x xs f) ∙ h))) (same_or_not x n)

pub index_past : (n : ℕ) (xs ys : List ℕ) → among n xs ≡ false → index_of n (xs ++ ys) ≡ length xs + index_of n ys
index_past n [] ys h = omega arith
index_past n (x ∷ xs) ys h =
    ⊎_elim (λ e. clash (sym h ∙ among_first n x xs e))
    (λ f. let more : index_of n (xs ++ ys) ≡ length xs + index_of n ys = index_past n xs ys (sym (among_later n x xs f) ∙ h) in rw (index_later n x (xs ++ ys) f) (omega arith)) (same_or_not x n)

-- one that is not there has the index behind the last
pub index_none : (n : ℕ) (ns : List ℕ) → among n ns ≡ false → index_of n ns ≡ length ns
unfolding index_of
index_none n [] h = refl
index_none n (x ∷ xs) h =
    ⊎_elim (λ e. clash (sym h ∙ among_first n x xs e)) (λ f. rw (index_later n x xs f, index_none n xs (sym (among_later n x xs f) ∙ h))) (same_or_not x n)

pub record StandsAt (n : ℕ) (ns : List ℕ) (index : ℕ) : Type 0 where
  pub inside : index < length ns
  pub is : get_or ns index 0 ≡ n

pub index_stands : (n : ℕ) (ns : List ℕ) → among n ns ≡ true → StandsAt n ns (index_of n ns)
index_stands n [] h = clash h
index_stands n (x ∷ xs) h =
    ⊎_elim (λ e. rw (index_first n x xs e) (record { inside = omega arith; is = e }))
    (λ f. let later = index_stands n xs (sym (among_later n x xs f) ∙ h) in rw (index_later n x xs f) (record { inside = omega arith; is = later.is })) (same_or_not x n)

pub stands_among : (n : ℕ) (ns : List ℕ) (index : ℕ) → StandsAt n ns index → among n ns ≡ true
stands_among n [] index h = absurd (omega (arith, h.inside))
stands_among n (x ∷ xs) zero h = among_first n x xs h.is
stands_among n (x ∷ xs) (suc index) h =
    ⊎_elim (λ e. among_first n x xs e) (λ f. among_later n x xs f ∙ stands_among n xs index (record { inside = omega (arith, h.inside); is = h.is })) (same_or_not x n)

-- ---- numbers that are all different
distinct_rest : (x : ℕ) (xs : List ℕ) → distinct (x ∷ xs) ≡ true → (among x xs ≡ false) × (distinct xs ≡ true)
unfolding distinct
distinct_rest x xs d = let parts = (and-eq-true_iff (not (among x xs)) (distinct xs)).0 d in (not-true (among x xs) parts.0, parts.1)

pub distinct_more : (ns : List ℕ) (n : ℕ) → distinct ns ≡ true → among n ns ≡ false → distinct (ns ++ (n ∷ [])) ≡ true
unfolding distinct
distinct_more [] n d h = refl
distinct_more (x ∷ xs) n d h =
    ⊎_elim (λ e. clash (sym h ∙ among_first n x xs e))
    (λ (f : x ≡ n → ⊥).
    let parts = distinct_rest x xs d in
    rw (among_join x xs (n ∷ []), parts.0, among_later x n [] (λ e. f (sym e)), distinct_more xs n parts.1 (sym (among_later n x xs f) ∙ h))) (same_or_not x n)

-- the index of each is its place
pub distinct_index : (ns : List ℕ) (n index : ℕ) → distinct ns ≡ true → StandsAt n ns index → index_of n ns ≡ index
unfolding distinct
distinct_index [] n index d h = absurd (omega (arith, h.inside))
distinct_index (x ∷ xs) n zero d h = index_first n x xs h.is
distinct_index (x ∷ xs) n (suc index) d h =
    let later : StandsAt n xs index = record { inside = omega (arith, h.inside); is = h.is } in
    let parts = distinct_rest x xs d in
    ⊎_elim (λ (e : x ≡ n). clash (sym parts.0 ∙ ap (λ (k : ℕ). among k xs) e ∙ stands_among n xs index later))
    (λ f. rw (index_later n x xs f, distinct_index xs n index parts.1 later)) (same_or_not x n)

pub distinct_twice : (ns rest : List ℕ) (n : ℕ) → among n ns ≡ true → distinct (ns ++ (n ∷ rest)) ≡ false
distinct_twice ns rest n h = go (distinct (ns ++ (n ∷ rest))) refl
  where
    go : (b : Bool) → distinct (ns ++ (n ∷ rest)) ≡ b → b ≡ false
    go true d =
        let first = index_stands n ns h in
        let here : index_of n (ns ++ (n ∷ rest)) ≡ length ns = distinct_index (ns ++ (n ∷ rest)) n (length ns) d (record { inside = simp length-append (omega arith); is = get_or-append_seam ns n rest 0 }) in
        absurd (omega (arith, first.inside, index_here n ns (n ∷ rest) h))
    go false d = refl

pub distinct_by : (ns : List ℕ) → ((i j : ℕ) → i < length ns → j < length ns → get_or ns i 0 ≡ get_or ns j 0 → i ≡ j) → distinct ns ≡ true
unfolding distinct
distinct_by [] h = refl
distinct_by (x ∷ xs) h = rw (alone (among x xs) refl, distinct_by xs (λ i j k l e. let s : suc i ≡ suc j = h (suc i) (suc j) (omega arith) (omega arith) e in omega arith))
  where
    alone : (b : Bool) → among x xs ≡ b → b ≡ false
    alone true e =
        let there = index_stands x xs e in
        let z : zero ≡ suc (index_of x xs) = h 0 (suc (index_of x xs)) (omega arith) (omega (arith, there.inside)) (sym there.is) in absurd (omega arith)
    alone false e = refl

-- ---- channels
all_rest : (c : Channel) (cs : List Channel) → all_fit (c ∷ cs) ≡ true → (channel_fits c ≡ true) × (all_fit cs ≡ true)
unfolding all_fit_under
all_rest c cs e = (and-eq-true_iff (channel_fits c) (all_fit cs)).0 e

pub all_join : (xs ys : List Channel) → all_fit (xs ++ ys) ≡ (all_fit xs && all_fit ys)
unfolding all_fit_under
all_join [] ys = refl
all_join (x ∷ xs) ys = rw (all_join xs ys, and_assoc)

pub all_at : (cs : List Channel) (i : ℕ) → i < length cs → all_fit cs ≡ true → channel_fits (get_or cs i no_channel) ≡ true
all_at [] i h e = absurd (omega arith)
all_at (c ∷ cs) zero h e = (all_rest c cs e).0
all_at (c ∷ cs) (suc i) h e = all_at cs i (omega arith) (all_rest c cs e).1

pub all_by : (cs : List Channel) → ((i : ℕ) → i < length cs → channel_fits (get_or cs i no_channel) ≡ true) → all_fit cs ≡ true
unfolding all_fit_under
all_by [] h = refl
all_by (c ∷ cs) h = rw (h 0 (omega arith), all_by cs (λ i k. h (suc i) (omega arith)))

pub all_set : (cs : List Channel) (i : ℕ) (c : Channel) → all_fit cs ≡ true → channel_fits c ≡ true → all_fit (set cs i c) ≡ true
unfolding all_fit_under
all_set [] i c e h = refl
all_set (x ∷ cs) zero c e h = rw (h, (all_rest x cs e).1)
all_set (x ∷ cs) (suc i) c e h = rw ((all_rest x cs e).0, all_set cs i c (all_rest x cs e).1 h)

pub ids_join : (xs ys : List Channel) → ids (xs ++ ys) ≡ ids xs ++ ids ys
unfolding ids
ids_join xs ys = map-append _ xs ys

pub ids_length : (cs : List Channel) → length (ids cs) ≡ length cs
unfolding ids
ids_length cs = length-map cs _

pub ids_at : (cs : List Channel) (i : ℕ) → get_or (ids cs) i 0 ≡ (get_or cs i no_channel).setting.id
unfolding ids
ids_at cs i = get_or-map (λ (c : Channel). c.setting.id) cs i no_channel

pub ids_set : (cs : List Channel) (i : ℕ) (c : Channel) → c.setting.id ≡ (get_or cs i no_channel).setting.id → ids (set cs i c) ≡ ids cs
unfolding ids
ids_set cs i c e = map-set_same (λ (x : Channel). x.setting.id) cs i c no_channel e

pub sizes_join : (xs ys : List Channel) → sizes (xs ++ ys) ≡ sizes xs + sizes ys
unfolding sizes
sizes_join [] ys = omega arith
sizes_join (x ∷ xs) ys = let more : sizes (xs ++ ys) ≡ sizes xs + sizes ys = sizes_join xs ys in omega arith

-- those before one, and itself, are no longer than all
pub sizes_room : (cs : List Channel) (i : ℕ) → i < length cs → sizes (take i cs) + (get_or cs i no_channel).setting.size.0 ≤ sizes cs
unfolding sizes
sizes_room cs i h =
    let whole : sizes cs ≡ sizes (take i cs) + ((get_or cs i no_channel).setting.size.0 + sizes (drop (suc i) cs)) = ap sizes (split_at cs i no_channel h) ∙ sizes_join (take i cs) _ in
    omega arith

pub sizes_set : (cs : List Channel) (i : ℕ) (c : Channel) (n : ℕ) → c.setting.size.0 ≡ (get_or cs i no_channel).setting.size.0 → sizes (take n (set cs i c)) ≡ sizes (take n cs)
unfolding sizes
sizes_set [] i c n e = refl
sizes_set (x ∷ cs) i c zero e = refl
sizes_set (x ∷ cs) zero c (suc n) e = rw e
sizes_set (x ∷ cs) (suc i) c (suc n) e = rw (sizes_set cs i c n e)

pub sizes_all : (cs : List Channel) (i : ℕ) (c : Channel) → c.setting.size.0 ≡ (get_or cs i no_channel).setting.size.0 → sizes (set cs i c) ≡ sizes cs
unfolding sizes
sizes_all [] i c e = refl
sizes_all (x ∷ cs) zero c e = rw e
sizes_all (x ∷ cs) (suc i) c e = rw (sizes_all cs i c e)

-- ---- the parts of `channel_fits`, as facts
pub record ChannelFit (c : Channel) : Type 0 where
  pub unreserved : c.setting.id < RESERVED-CHANNEL
  pub smallest : SMALLEST-STORE ≤ c.setting.size.0
  pub largest : c.setting.size.0 ≤ LARGEST-STORE
  pub status_allowed_lem : status_allowed ends.Radio c.status ≡ true
  pub flow_fits_lem : flow_fits c.setting.controlled c.flow ≡ true
  pub well_formed_lem : well_formed c.queue c.setting.size.0 ≡ true

pub fitting : (c : Channel) → channel_fits c ≡ true → ChannelFit c
unfolding channel_fits_under
fitting c e =
    let a = (and-eq-true_iff (setting_fits c.setting) _).0 e in
    let b = (and-eq-true_iff (ltb c.setting.id RESERVED-CHANNEL) _).0 a.0 in
    let d = (and-eq-true_iff (leb SMALLEST-STORE c.setting.size.0) _).0 b.1 in
    let f = (and-eq-true_iff (status_allowed ends.Radio c.status) _).0 a.1 in
    let g = (and-eq-true_iff (flow_fits c.setting.controlled c.flow) _).0 f.1 in
    record { unreserved = ltb-true _ _ b.0; smallest = leb-true _ _ d.0; largest = leb-true _ _ d.1; status_allowed_lem = f.0; flow_fits_lem = g.0; well_formed_lem = g.1 }

pub fitting_fits : (c : Channel) → ChannelFit c → channel_fits c ≡ true
unfolding channel_fits_under
fitting_fits c f =
    rw (lt-ltb _ _ f.unreserved, le-leb _ _ f.smallest, le-leb _ _ f.largest, f.status_allowed_lem, f.flow_fits_lem, f.well_formed_lem)

pub sizes_most : (cs : List Channel) → all_fit cs ≡ true → sizes cs ≤ LARGEST-STORE * length cs
unfolding sizes
sizes_most [] e = omega arith
sizes_most (c ∷ cs) e =
    let more : sizes cs ≤ LARGEST-STORE * length cs = sizes_most cs (all_rest c cs e).1 in
    omega (arith, (fitting c (all_rest c cs e).0).largest)
