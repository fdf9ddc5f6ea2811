-- What the calls of a match list keep of its looks.
use Rattle.std.proofs.Common.{◌≡◌, ℕ, ◌<◌, Bool, filter, List, [], ◌∷◌, ◌++◌, length, get_or, set, refl, sym, subst, ◌∙◌, inl, inr, arith}
use Rattle.std.specs.Prelude.{All}
use Rattle.std.proofs.lemmas.Bool.{cases_Bool}
use Rattle.std.proofs.lemmas.List.{length-set, get_or-set_same, get_or-set_other, get_or_default, take_at, drop_at}
use Rattle.std.proofs.lemmas.List.Elements.{All-nil, All-cons, All-head, All-tail, All-append, All-push, All-take, All-drop, All-filter}
use Rattle.chain_list.specs.declared.chain.ChainKey.{ChainKey}
use Rattle.chain_list.specs.Chain.{Keyed, ChainList, chain_list, keyed, same_key, without, changed, NotAt}
use Rattle.chain_list.specs.threads.Threads.{Woven}
use Rattle.ni_model.specs.declared.Linked.{Linked}
use Rattle.match_lists.specs.declared.look.Look.{Look}
use Rattle.match_lists.specs.Looks.{look_of, IsSeen}
use Rattle.match_lists.specs.Indexed.{IsIndexed, IsMatchList}
use Rattle.match_lists.proofs.IndexLemmas.{IsLive, changed-live}

seen-parts : (looks : List Look) (before : List (Keyed Linked)) (x : Keyed Linked) (behind : List (Keyed Linked)) →
    All (IsSeen looks) (before ++ x ∷ behind)
    → All (IsSeen looks) before × IsSeen looks x × All (IsSeen looks) behind
seen-parts looks before x behind s =
    let P = IsSeen looks in
    let n = length before in
    let rest : All P (x ∷ behind) = subst (All P) (drop_at before (x ∷ behind) n refl) (All-drop P n (before ++ x ∷ behind) s) in (
      subst (All P) (take_at before (x ∷ behind) n refl) (All-take P n (before ++ x ∷ behind) s),
      All-head P x behind rest,
      All-tail P x behind rest,
    )

pub seen-without : (looks : List Look) (key : ChainKey) (xs : List (Keyed Linked)) → All (IsSeen looks) xs →
    All (IsSeen looks) (without key xs)
seen-without looks key [] s = All-nil (IsSeen looks)
seen-without looks key (x ∷ xs) s =
    let rest = seen-without looks key xs (All-tail (IsSeen looks) x xs s) in
    elim (cases_Bool (same_key x.key key)) [
      | inl e ↦ rw e rest
      | inr e ↦ rw e
          (All-cons (IsSeen looks) x (without key xs) (All-head (IsSeen looks) x xs s) rest)
    ]

-- a look is put where none of these entries lies
seen-set : (looks : List Look) (place : ℕ) (look : Look) (xs : List (Keyed Linked)) → NotAt place xs → All (IsSeen looks) xs →
    All (IsSeen (set looks place look)) xs
seen-set looks place look [] n s = All-nil (IsSeen (set looks place look))
seen-set looks place look (x ∷ xs) n s =
    let here = All-head (IsSeen looks) x xs s in
    All-cons (IsSeen (set looks place look)) x xs
    (omega (arith, length-set looks place look, here.0), get_or-set_other looks place x.key.place look (look_of x.value) n.0 ∙ here.1)
    (seen-set looks place look xs n.1 (All-tail (IsSeen looks) x xs s))

-- and where this one lies
seen-here : (looks : List Look) (x : Keyed Linked) → x.key.place < length looks → IsSeen (set looks x.key.place (look_of x.value)) x
seen-here looks x lt = (
  omega (arith, length-set looks x.key.place (look_of x.value), lt),
  get_or-set_same looks x.key.place (look_of x.value)
      (look_of x.value) lt,
)

-- the entry of a part at whose place a walk stands
pub seen-part : (looks : List Look) (q : Keyed Linked → Bool) (xs front : List (Keyed Linked)) (x : Keyed Linked)
    (behind : List (Keyed Linked)) → All (IsSeen looks) xs
    → filter q xs ≡ front ++ x ∷ behind → IsSeen looks x
seen-part looks q xs front x behind s e = (seen-parts looks front x behind
    (subst (All (IsSeen looks)) e (All-filter q (IsSeen looks) xs s))).1

pub seen-look : (looks : List Look) (x : Keyed Linked) (place : ℕ) (d : Look) → IsSeen looks x → x.key.place ≡ place →
    get_or looks place d ≡ look_of x.value
seen-look looks x place d s e =
    subst (λ p. get_or looks p d ≡ look_of x.value) e (get_or_default looks x.key.place d (look_of x.value) s.0 ∙ s.1)

pub IsMatchList-none : (chain : ChainList Linked) (threads : Woven) (looks : List Look) (limit : ℕ) → IsIndexed chain threads limit →
    chain ≡ chain_list [] limit 0
    → length looks ≡ limit → IsMatchList chain threads looks limit
IsMatchList-none chain threads looks limit i e long =
    record {
      indexed = i;
      room_of_looks = long;
      seen = subst (λ (c : ChainList Linked). All (IsSeen looks) c.entries) (sym e)
          (All-nil (IsSeen looks));
    }

pub seen-push : (looks : List Look) (xs : List (Keyed Linked)) (x : Keyed Linked) → All (IsSeen looks) xs → NotAt x.key.place xs →
    x.key.place < length looks
    → All (IsSeen (set looks x.key.place (look_of x.value))) (xs ++ x ∷ [])
seen-push looks xs x s n lt =
    let look = look_of x.value in
    All-push (IsSeen (set looks x.key.place look)) xs x (seen-set looks x.key.place look xs n s) (seen-here looks x lt)

pub seen-advance : (looks : List Look) (chain : ChainList Linked) (key : ChainKey) (l : IsLive chain key) (v : Linked) →
    All (IsSeen looks) chain.entries
    → All (IsSeen (set looks key.place (look_of v))) (changed key v chain.entries)
seen-advance looks chain key l v s =
    let y = keyed key v in
    let P = IsSeen (set looks key.place (look_of v)) in
    let parts = seen-parts looks l.before (keyed key l.value) l.behind (subst (All (IsSeen looks)) l.is s) in
    subst (All P) (sym (changed-live chain key l v))
    (All-append P l.before (y ∷ l.behind) (seen-set looks key.place (look_of v) l.before l.away parts.0)
    (All-cons P y l.behind (seen-here looks y parts.1.0) (seen-set looks key.place (look_of v) l.behind l.away_behind parts.2)))

pub seen-live : (looks : List Look) (chain : ChainList Linked) (key : ChainKey) (l : IsLive chain key) →
    All (IsSeen looks) chain.entries → key.place < length looks
seen-live looks chain key l s = (seen-parts looks l.before (keyed key l.value) l.behind (subst (All (IsSeen looks)) l.is s)).1.0
