-- Along the way place by place: what is passed and what is left make it up, and what is written are the bytes of what is passed.
use mathlib.Core.Path.{◌≡◌, refl, sym, ap, ◌∙◌}
use mathlib.Core.List.{List, [], ◌∷◌, ◌++◌, append_assoc}
use Prim.Native.Nat.{ℕ, ◌+◌, ◌*◌, ◌≤◌, ◌<◌}
use native.Mathlib.Omega.{arith}
use lib.ListN.{length, drop, length-append}
use Rattle.graph.specs.Graph.{Graph}
use Rattle.routines.specs.Answer.{bytes_of}
use Rattle.routines_paths.specs.Deep.{Move, Roomy, Short, LengthIs, Along, Writing, Written}
use Rattle.routines_paths.proofs.place.Bytes.{Put, put-more}
use Rattle.routines_paths.proofs.deepest.Ways.{move_opens, route_after, route_end, route_length}

pub along_start : {g : Graph} {dep : List ℕ} {goal s stack : ℕ} → Short g dep goal s stack → Along g dep goal s stack 0 [] s 0
along_start r = record { route = r.route; is = r.is; few = r.few; pre = []; rest = r.route; split = refl; rest_is = r.is; passed = refl; opens = omega arith }

module _ {g : Graph} {dep ks : List ℕ} {goal s stack reached v n : ℕ} (a : Along g dep goal s stack reached ks v n) where
  -- v is one of the way's places
  pub along_few : n < length a.route
  along_few = omega (arith, a.passed, ap length a.split, length-append a.pre a.rest, route_length a.rest_is)

  -- each open call has been passed and has yet to end
  pub along_stack : length ks < stack
  along_stack = omega (arith, a.few, a.opens, a.passed, ap length a.split, length-append a.pre a.rest, route_length a.rest_is)

  pub along_more : {w y : ℕ} {ks' : List ℕ} → Move g dep goal reached ks v y ks' w → Along g dep goal s stack y ks' w (n + 1)
  along_more m =
      let x = route_after m a.rest_is in
      record {
        route = a.route;
        is = a.is;
        few = a.few;
        pre = a.pre ++ (v ∷ []);
        rest = x.0;
        split = a.split ∙ ap (λ (l : List ℕ). a.pre ++ l) x.1 ∙ sym (append_assoc a.pre (v ∷ []) x.0);
        rest_is = x.2;
        passed = omega (arith, a.passed, length-append a.pre (v ∷ []));
        opens = omega (arith, move_opens m, a.opens);
      }

  -- at the end of the outer routine v is the last
  pub along-last : ks ≡ [] → g.kind v ≡ 2 → a.route ≡ a.pre ++ (v ∷ [])
  along-last none k = a.split ∙ ap (λ (l : List ℕ). a.pre ++ l) (route_end k (rw none at a.rest_is))

  pub along_end : ks ≡ [] → g.kind v ≡ 2 → LengthIs g dep goal s stack (n + 1)
  along_end none k =
      record { few = a.few; route = a.route; is = a.is; len = omega (arith, a.passed, ap length (along-last none k), length-append a.pre (v ∷ [])) }

pub writing_start : {g : Graph} (address : ℕ → ℕ) {dep p : List ℕ} {goal s stack : ℕ} → Roomy g dep goal s p stack → Writing g address dep goal s p stack p 0 [] s 0
unfolding bytes_of along_start
writing_start address r = record { n = 0; along = along_start (record { route = r.route; is = r.is; few = r.few }); fits = r.fits; at_is = refl; bytes = refl }

module _ {g : Graph} {address : ℕ → ℕ} {dep p p' ks : List ℕ} {goal s reached v at stack : ℕ} (wr : Writing g address dep goal s p stack p' reached ks v at) where
  pub writing-room : at + 2 ≤ length p
  writing-room = omega (arith, wr.at_is, wr.fits, along_few wr.along)

  put-bytes : {p'' : List ℕ} → Put address p' at v p'' → p'' ≡ bytes_of address (wr.along.pre ++ (v ∷ [])) ++ drop (at + 2) p
  put-bytes e = put-more address p wr.along.pre at v wr.bytes (omega (arith, wr.at_is, wr.along.passed)) writing-room e

  pub writing_more : {w y : ℕ} {ks' p'' : List ℕ} → Move g dep goal reached ks v y ks' w → Put address p' at v p'' → Writing g address dep goal s p stack p'' y ks' w (at + 2)
  unfolding along_more
  writing_more m e =
      record { n = wr.n + 1; along = along_more wr.along m; fits = wr.fits; at_is = omega (arith, wr.at_is); bytes = put-bytes e }

  pub writing_end : ks ≡ [] → g.kind v ≡ 2 → {p'' : List ℕ} → Put address p' at v p'' → Written g address dep goal s p p''
  writing_end none k e =
      let m : 2 * length (wr.along.pre ++ (v ∷ [])) ≡ at + 2 = omega (arith, wr.at_is, wr.along.passed, length-append wr.along.pre (v ∷ [])) in
      record { route = wr.along.route; is = wr.along.is; room = wr.fits; bytes = rw (along-last wr.along none k, m) (put-bytes e) }
