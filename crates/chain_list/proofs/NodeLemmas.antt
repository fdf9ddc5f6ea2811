-- What making, freeing and growing keep of nodes.
use Rattle.std.proofs.Common.{◌≡◌, ◌≢◌, ℕ, zero, suc, ◌+◌, ◌-◌, ◌^◌, ◌<◌, ◌≤◌, Bool, true, cond, List, [], ◌∷◌, ◌++◌, length, get_or, set}
use Rattle.std.proofs.Common.{replicate, Option, Some, None, refl, sym, ap, subst, ◌∙◌, inl, inr, arith}
use Rattle.std.specs.Option.{is_some}
use Rattle.std.specs.List.{count_by}
use Rattle.std.specs.Vec.{vec_capacity}
use Rattle.std.proofs.Math.ListN.{get_or-append}
use Rattle.std.proofs.Math.Seq.{get_or-append_seam}
use Rattle.std.proofs.lemmas.Bool.{cases_lt}
use Rattle.std.proofs.lemmas.List.{length-set, length-append, length-replicate, get_or-set_other, get_or-replicate, get_or-append_right}
use Rattle.std.proofs.lemmas.List.Sums.{sum_by-set, sum_by-append}
use Rattle.std.specs.declared.alloc.Global.{Global}
use Rattle.std.specs.declared.vec.Vec.{Vec}
use Rattle.chain_list.specs.NodeMap.{Node}
use Rattle.chain_list.specs.NodeMap.{IsNodes}

abbrev pub no_node : {X : Type 0} → Option (Node X)
no_node = None

none-counted : (X : Type 0) (k : ℕ) → count_by is_some (replicate k (no_node {X = X})) ≡ 0
none-counted X zero = refl
none-counted X (suc k) = none-counted X k

module _ {X : Type 0} where
  -- one more place holds a node, or one fewer
  pub count-fill : (cs : List (Option (Node X))) (p : ℕ) (n : Node X) → p < length cs → get_or cs p None ≡ None →
      count_by is_some (set cs p (Some n)) ≡ count_by is_some cs + 1
  count-fill cs p n lt e =
      let s = sum_by-set (λ (x : Option (Node X)). cond (is_some x) 1 0) cs p (Some n) None lt in
      let none : ℕ = 0 in let z : cond (is_some (get_or cs p None)) 1 0 ≡ none = ap (λ (x : Option (Node X)). cond (is_some x) 1 0) e in
      omega (arith, s, z)

  pub count-empty : (cs : List (Option (Node X))) (p : ℕ) → p < length cs → is_some (get_or cs p None) ≡ true →
      count_by is_some (set cs p None) + 1 ≡ count_by is_some cs
  count-empty cs p lt e =
      let s = sum_by-set (λ (x : Option (Node X)). cond (is_some x) 1 0) cs p None None lt in
      let one : ℕ = 1 in let z : cond (is_some (get_or cs p None)) 1 0 ≡ one = ap (λ (b : Bool). cond b 1 0) e in
      omega (arith, s, z)

  pub live_within : (cs : List (Option (Node X))) (p : ℕ) → is_some (get_or cs p None) ≡ true → p < length cs
  live_within [] p e = cc
  live_within (c ∷ cs) zero e = omega arith
  live_within (c ∷ cs) (suc p) e = let lt : p < length cs = live_within cs p e in omega arith

  module _ (cs : List (Option (Node X))) (free free' : Vec ℕ Global) (p : ℕ) where
    -- the last free place is taken
    pub IsNodes-make : (n : Node X) → IsNodes cs free → free.items ≡ free'.items ++ p ∷ [] → vec_capacity free' ≡ vec_capacity free
        → (p < length cs) × (get_or cs p None ≡ None) × IsNodes (set cs p (Some n)) free'
    IsNodes-make n is e room =
        let long : length free.items ≡ length free'.items + 1 = ap length e ∙ length-append free'.items (p ∷ []) in
        let here : get_or free.items (length free'.items) 0 ≡ p = ap (λ l. get_or l (length free'.items) 0) e
        ∙ get_or-append_seam free'.items p [] 0 in
        let same : (i : ℕ) → i < length free'.items → get_or free.items i 0 ≡ get_or free'.items i 0 = λ i lt. ap (λ l. get_or l i 0) e
        ∙ get_or-append free'.items (p ∷ []) 0 i lt in
        let last = is.empty (length free'.items) (omega arith) in
        let within : p < length cs = subst (λ q. q < length cs) here last.0 in
        let none : get_or cs p None ≡ None = subst (λ q. get_or cs q None ≡ None) here last.1 in (
          within,
          none,
          record {
            empty = λ i lt.
                let first = is.empty i (omega arith) in
                let apart : get_or free'.items i 0 ≢ p = λ q. is.apart i (length free'.items) lt (omega arith) (same i lt ∙ q ∙ sym here)
                in (
                  subst (λ q. q < length (set cs p (Some n))) (same i lt) (omega (arith, first.0, length-set cs p (Some n))),
                  get_or-set_other cs p (get_or free'.items i 0) (Some n) None apart ∙ subst (λ q. get_or cs q None ≡ None) (same i lt)
                      first.1,
                );
            apart = λ i j lt within_j q. is.apart i j lt (omega arith) (same i (omega arith) ∙ q ∙ sym (same j within_j));
            all = omega (arith, is.all, count-fill cs p n within none, length-set cs p (Some n));
            room = omega (arith, is.room, length-set cs p (Some n));
            small = omega (arith, is.small, length-set cs p (Some n));
          },
        )

  pub count-empties : (cs : List (Option (Node X))) (k : ℕ) → count_by is_some (cs ++ replicate k None) ≡ count_by is_some cs
  count-empties cs k = omega (arith, sum_by-append (λ (x : Option (Node X)). cond (is_some x) 1 0) cs (replicate k None), none-counted X k)

  -- further places are added
  pub IsNodes-grow : (cs : List (Option (Node X))) (free free' : Vec ℕ Global) (k : ℕ) → IsNodes cs free → length cs + k < 2 ^ 32
      → length free'.items ≡ length free.items + k
      → ((i : ℕ) → i < length free.items → get_or free'.items i 0 ≡ get_or free.items i 0)
      → ((i : ℕ) → i < k → get_or free'.items (length free.items + i) 0 ≡ length cs + k - 1 - i)
      → length cs + k ≤ vec_capacity free' → IsNodes (cs ++ replicate k None) free'
  IsNodes-grow cs free free' k is small len kept added room =
      let long : length (cs ++ replicate k None) ≡ length cs + k = length-append cs (replicate k None)
      ∙ ap (λ n. length cs + n) (length-replicate k None) in
      let new : (i : ℕ) → length free.items ≤ i → i < length free'.items →
      get_or free'.items i 0 ≡ length cs + k - 1 - (i - length free.items) =
      λ i le lt. let at : length free.items + (i - length free.items) ≡ i = omega arith in
      subst (λ j. get_or free'.items j 0 ≡ length cs + k - 1 - (i - length free.items)) at (added (i - length free.items) (omega arith)) in
      record {
        empty = λ i lt. elim (cases_lt i (length free.items)) [
          | inl a ↦ let old = is.empty i a in let e = kept i a in
              let within : get_or free'.items i 0 < length cs = subst (λ q. q < length cs) (sym e) old.0 in (
                omega (arith, within, long),
                get_or-append cs (replicate k None) None (get_or free'.items i 0) within
                    ∙ ap (λ q. get_or cs q None) e ∙ old.1,
              )
          | inr b ↦ let e = new i b lt in
              let above : length cs ≤ get_or free'.items i 0 = omega (arith, e) in
              let below : get_or free'.items i 0 - length cs < k = omega (arith, e) in (
                omega (arith, e, long),
                get_or-append_right cs (replicate k None) (length cs) (get_or free'.items i 0) None refl above
                    ∙ get_or-replicate k (get_or free'.items i 0 - length cs) None None below,
              )
        ];
        apart = λ i j lt within q. elim (cases_lt j (length free.items)) [
          | inl a ↦ is.apart i j lt a (sym (kept i (omega arith)) ∙ q ∙ kept j a)
          | inr b ↦ elim (cases_lt i (length free.items)) [
            | inl a ↦ let old = is.empty i a in let e = kept i a in let f = new j b within in omega (arith, old.0, e, f, q)
            | inr a ↦ let e = new i a (omega arith) in let f = new j b within in omega (arith, e, f, q)
          ]
        ];
        all = omega (arith, is.all, len, long, count-empties cs k);
        room = omega (arith, room, long);
        small = omega (arith, small, long);
      }

  -- no nodes, and no free places
  pub IsNodes-none : (free : Vec ℕ Global) → free.items ≡ [] → IsNodes {X = X} [] free
  IsNodes-none free e =
      let none : length free.items ≡ 0 = ap length e in
      record {
        empty = λ i lt. absurd (omega (arith, none));
        apart = λ i j lt within q. omega (arith, none);
        all = omega (arith, none);
        room = omega arith;
        small = omega arith;
      }
