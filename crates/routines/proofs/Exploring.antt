-- Once every place that is found is read, the nodes are the flow; and the steps to there.
use mathlib.Core.Path.{◌≡◌, refl, sym, ap, ◌∙◌}
use mathlib.Core.List.{List}
use Prim.Native.Nat.{ℕ, suc, ◌-◌, ◌≤◌, ◌<◌}
use native.Mathlib.Omega.{arith}
use native.Mathlib.Decide.{dec_lt, ℕ_discrete}
use lib.Dec.{eqb}
use borrow.Author.Tests.{eq-eqb, ne_eqb}
use Rattle.laws.specs.Choice.{pick}
use Rattle.graph.proofs.Pigeon.{Twice, pigeon}
use Rattle.routines.specs.Calling.{Flow}
use Rattle.routines.specs.Answer.{Found, Answer}
use Rattle.routines.specs.Numbered.{Names, Numbered}
use Rattle.routines.specs.Exploring.{Node, flow_of, Told, from_by, NodeOf, Explored, Grows, Finds}
use Rattle.routines.proofs.Renamed.{renamed_by}

module _ {f : Flow} {cycles address name map : ℕ → ℕ} {n s : ℕ} {node : ℕ → Node} (a : Explored f cycles address name map n n s node) (first : (e : ℕ) → address (f.from e) ≡ e) where
  pub number_of_lem : {v w : ℕ} → Names name n v w → map w - 1 ≡ v
  number_of_lem {v} x = rw (← x.is) (omega (arith, a.told.told v x.found))

  pub entry-is : (v : ℕ) → v < n → (node v).kind ≡ 3 → (node (node v).into).address ≡ f.entry (name v)
  entry-is v h k = let x = (a.holds v h).into k in (a.holds (node v).into x.found).address ∙ ap address x.is ∙ first (f.entry (name v))

  -- what the nodes call is where the entries are said to start
  pub into_is : (v : ℕ) → v < n → (node v).kind ≡ 3 → from_by f map (node (node v).into).address ≡ (node v).into
  into_is v h k = rw (entry-is v h k) (number_of_lem ((a.holds v h).into k))

  pub numbered : Numbered f (flow_of node (from_by f map) s) name n
  unfolding flow_of
  numbered = record {
    once = λ u v i j e. omega (arith, a.told.told u i, a.told.told v j, ap map e);
    start = a.start;
    kind = λ v h. (a.holds v h).kind;
    known = λ v h. (a.holds v h).known;
    next = λ v h k. (a.holds v h).next k;
    other = λ v h k. (a.holds v h).other k;
    unknown_after = λ v h k. (a.holds v h).unknown_after k;
    known_after = λ v h k. (a.holds v h).known_after k;
    entry = entry-is;
    into = λ v h k. rw (into_is v h k) ((a.holds v h).into k);
  }

  pub explored : {p p' q q' : List ℕ} {x : Found} → Answer (flow_of node (from_by f map) s) (λ v. (node v).cost) (λ v. (node v).address) p p' q q' x → Answer f cycles address p p' q q' x
  explored y = renamed_by numbered (λ v h. (a.holds v h).cost) (λ v h. (a.holds v h).address) y

module _ {name name' : ℕ → ℕ} {n n' : ℕ} (grows : Grows name n name' n') where
  pub names-on : {v w : ℕ} → Names name n v w → Names name' n' v w
  names-on {v} x = record { found = omega (arith, x.found, grows.more); is = grows.kept v x.found ∙ x.is }

  -- a node that is laid stays right when more places are found
  pub node-on : {f : Flow} {cycles address : ℕ → ℕ} {w : ℕ} {x : Node} → NodeOf f cycles address name n w x → NodeOf f cycles address name' n' w x
  node-on x = record {
    kind = x.kind;
    known = x.known;
    cost = x.cost;
    address = x.address;
    next = λ k. names-on (x.next k);
    other = λ k. names-on (x.other k);
    unknown_after = λ k. names-on (x.unknown_after k);
    known_after = λ k. names-on (x.known_after k);
    into = λ k. names-on (x.into k);
  }

  -- one more node is laid, after what follows its place is found: the others stay as they were
  module _ {f : Flow} {cycles address map map' : ℕ → ℕ} {done s : ℕ} {node node' : ℕ → Node} where
    pub read-on : Explored f cycles address name map n done s node → done < n → Told name' map' n' → ((v : ℕ) → v < done → node' v ≡ node v) → NodeOf f cycles address name' n' (name done) (node' done) → Explored f cycles address name' map' n' (suc done) s node'
    read-on a h told kept x = record {
      told = told;
      start = names-on a.start;
      holds = λ v i. go v i (ℕ_discrete v done);
    }
      where
        go : (v : ℕ) → v < suc done → Dec (v ≡ done) → NodeOf f cycles address name' n' (name' v) (node' v)
        go v i (yes e) = rw (e, grows.kept done h) x
        go v i (no ne) =
            let j : v < done = omega (arith, i, ne) in
            let k : v < n = omega (arith, j, h) in
            rw (grows.kept v k, kept v j) (node-on (a.holds v j))

pub grows_refl : {name : ℕ → ℕ} {n : ℕ} → Grows name n name n
grows_refl = record { more = omega arith; kept = λ v h. refl }

pub grows_trans : {name name' name'' : ℕ → ℕ} {n n' n'' : ℕ} → Grows name n name' n' → Grows name' n' name'' n'' → Grows name n name'' n''
grows_trans a b = record { more = omega (arith, a.more, b.more); kept = λ v h. b.kept v (omega (arith, h, a.more)) ∙ a.kept v h }

-- before a place is found
pub none_told : {name map : ℕ → ℕ} → ((w : ℕ) → map w ≡ 0) → Told name map 0
none_told blank = record { told = λ v h. absurd (omega (arith, h)); names = λ w h. absurd (omega (arith, h, blank w)) }

-- one more place is found
module _ {name map name' map' : ℕ → ℕ} {n w : ℕ} (a : Finds name map n w name' map') where
  pub finds-grows : Grows name n name' (suc n)
  finds-grows = record { more = omega arith; kept = a.kept }

  pub finds-names : Names name' (suc n) n w
  finds-names = record { found = omega arith; is = a.named }

  pub finds-told : Told name map n → Told name' map' (suc n)
  finds-told t = record { told = λ v h. tells v h (ℕ_discrete v n); names = λ u h. is u h (ℕ_discrete u w) }
    where
      tells : (v : ℕ) → v < suc n → Dec (v ≡ n) → map' (name' v) ≡ suc v
      tells v h (yes e) = rw (e, a.named) a.mapped
      tells v h (no ne) =
          let j : v < n = omega (arith, h, ne) in
          rw (a.kept v j) (a.others (name v) (λ e. omega (arith, t.told v j, a.unfound, ap map e)) ∙ t.told v j)

      is : (u : ℕ) → 0 < map' u → Dec (u ≡ w) → Names name' (suc n) (map' u - 1) u
      is u h (yes e) =
          let j : map' u - 1 ≡ n = omega (arith, ap map' e, a.mapped) in
          record { found = omega (arith, j); is = ap name' j ∙ a.named ∙ sym e }
      is u h (no ne) = rw (a.others u ne) (names-on finds-grows (t.names u (omega (arith, h, a.others u ne))))

-- there are no more numbers than places
pub few : {name map : ℕ → ℕ} {n most : ℕ} → Told name map n → ((v : ℕ) → v < n → name v < most) → n ≤ most
unfolding Twice
few {name} {map} {n} {most} t small = go (dec_lt most n)
  where
    go : Dec (most < n) → n ≤ most
    go (yes h) =
        let x = pigeon most name (λ v k. small v (omega (arith, k, h))) in
        absurd (omega (arith, x.2, ap map x.4, t.told x.0 (omega (arith, x.2, x.3, h)), t.told x.1 (omega (arith, x.3, h))))
    go (no h) = omega arith

-- and there is a number left for one that is not found
pub room : {name map : ℕ → ℕ} {n w most : ℕ} → Told name map n → ((v : ℕ) → v < n → name v < most) → w < most → map w ≡ 0 → n < most
room {name} {map} {n} {w} {most} t small h e = few (finds-told finds t) (λ v k. below v k (ℕ_discrete v n))
  where
    name' : ℕ → ℕ
    name' v = pick (eqb v n) w (name v)

    map' : ℕ → ℕ
    map' u = pick (eqb u w) (suc n) (map u)

    finds : Finds name map n w name' map'
    finds = record {
      unfound = e;
      kept = λ v k. rw (ne_eqb v n (λ z. omega (arith, k, z))) refl;
      named = rw (eq-eqb n n refl) refl;
      mapped = rw (eq-eqb w w refl) refl;
      others = λ u ne. rw (ne_eqb u w ne) refl;
    }

    below : (v : ℕ) → v < suc n → Dec (v ≡ n) → name' v < most
    below v k (yes z) = rw (eq-eqb v n z) h
    below v k (no ne) = rw (ne_eqb v n ne) (small v (omega (arith, k, ne)))
