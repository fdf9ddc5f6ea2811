-- Histories with the handles that were given by their start.
use Rattle.std.proofs.Common.{◌≡◌, ◌++◌, ◌∷◌, [], ◌∙◌, Bool, true, false, List, length, map, sym, ap, refl, subst, true≢false}
use Rattle.std.specs.Prelude.{Some, None}
use Rattle.std.proofs.lemmas.List.{map-append}
use mathlib.Core.List.{IsPrefix}
use Rattle.cuts.specs.histories.History.{Local}
use Rattle.cuts.specs.histories.History.Local.{Start, Receive, Fire}
use Rattle.rank_node.specs.Copies.{has_start}
use Rattle.rank_node.specs.Handles.{Handles}
use Rattle.rank_node.specs.Node.{NodeState}
use Rattle.rank_node.proofs.Copies.{started-front}
use Rattle.rank_slots.specs.declared.turn_rank.TurnRank.{TurnRank}
use Rattle.rank_slots.specs.Missing.{HasFlushed}
use Rattle.rank_slots.specs.Chronicles.{Entry, KeepsHandles, chronicle, entry}
use Rattle.rank_slots.specs.Names.{history}
use Rattle.rank_slots.proofs.Snocs.{length_map}

abbrev bare : List Entry → List Local
bare es = map (λ (e : Entry). e.0) es

-- without the handles it is the history
pub bare-history : (hs : Handles) (es : List Local) → bare (map (entry hs) es) ≡ es
bare-history hs [] = refl
bare-history hs (Start ∷ es) = ap (λ (l : List Local). Start ∷ l) (bare-history hs es)
bare-history hs (Receive s lane m ∷ es) = ap (λ (l : List Local). Receive s lane m ∷ l) (bare-history hs es)
bare-history hs (Fire t ∷ es) = ap (λ (l : List Local). Fire t ∷ l) (bare-history hs es)

pub as-long : (x : TurnRank) → length (chronicle x) ≡ length (history x)
as-long x = length_map (entry x.node.value.kept) (history x)

-- a beginning of the one is a beginning of the other
pub begins-history : (x y : TurnRank) → IsPrefix (chronicle x) (chronicle y) → IsPrefix (history x) (history y)
begins-history x y p = (
  bare p.0,
  ap (λ (l : List Local). l ++ bare p.0) (sym (bare-history x.node.value.kept (history x)))
      ∙ (sym (map-append (λ (e : Entry). e.0) (chronicle x) p.0) ∙ (ap bare p.1 ∙ bare-history y.node.value.kept (history y))),
)

-- a history without a start tells of no handles
unstarted : (hs ks : Handles) (es : List Local) → has_start es ≡ false → map (entry hs) es ≡ map (entry ks) es
unstarted hs ks [] none = refl
unstarted hs ks (Start ∷ es) none = absurd (true≢false (started-front false Start es ∙ none))
unstarted hs ks (Receive s lane m ∷ es) none = ap (λ (l : List Entry). (Receive s lane m, None) ∷ l)
    (unstarted hs ks es (started-front false (Receive s lane m) es ∙ none))
unstarted hs ks (Fire t ∷ es) none = ap (λ (l : List Entry). (Fire t, None) ∷ l)
    (unstarted hs ks es (started-front false (Fire t) es ∙ none))

same-dates : (hs ks : Handles) (es : List Local) (b : Bool) → has_start es ≡ b → (has_start es ≡ true → ks ≡ hs) →
    map (entry hs) es ≡ map (entry ks) es
same-dates hs ks es true e same = ap (λ k. map (entry k) es) (sym (same e))
same-dates hs ks es false e same = unstarted hs ks es e

-- where the history only grew, and no handle was given after the start
pub begins-chronicle : (x y : TurnRank) → IsPrefix (history x) (history y) → KeepsHandles x y → IsPrefix (chronicle x) (chronicle y)
begins-chronicle x y p same = (
  map (entry y.node.value.kept) p.0,
  ap (λ (l : List Entry). l ++ map (entry y.node.value.kept) p.0)
      (same-dates x.node.value.kept y.node.value.kept (history x) (has_start (history x)) refl same)
      ∙ (sym (map-append (entry y.node.value.kept) (history x) p.0) ∙ ap (map (entry y.node.value.kept)) p.1),
)

-- a start stays
pub started-longer : (es fs : List Local) → has_start es ≡ true → has_start (es ++ fs) ≡ true
started-longer [] fs e = absurd (true≢false (sym e))
started-longer (Start ∷ es) fs e = sym (started-front false Start (es ++ fs))
started-longer (Receive s lane m ∷ es) fs e = sym (started-front false (Receive s lane m) (es ++ fs))
    ∙ started-longer es fs (started-front false (Receive s lane m) es ∙ e)
started-longer (Fire t ∷ es) fs e = sym (started-front false (Fire t) (es ++ fs))
    ∙ started-longer es fs (started-front false (Fire t) es ∙ e)

pub started-prefix : (es fs : List Local) → IsPrefix es fs → has_start es ≡ true → has_start fs ≡ true
started-prefix es fs p e = subst (λ (l : List Local). has_start l ≡ true) p.1 (started-longer es p.0 e)

pub handles-after : (x y z : TurnRank) → IsPrefix (history x) (history y) → KeepsHandles x y → KeepsHandles y z → KeepsHandles x z
handles-after x y z p f g = λ started. g (started-prefix (history x) (history y) p started) ∙ f started

pub handles-flushed : (x z y : TurnRank) → HasFlushed x z → KeepsHandles z y → KeepsHandles x y
handles-flushed x z y f keeps = λ started. keeps (ap (λ (n : NodeState). has_start n.diary.locals) f.node.same ∙ started)
    ∙ ap (λ (n : NodeState). n.kept) f.node.same

pub handles-first : (x y : TurnRank) → has_start (history x) ≡ false → KeepsHandles x y
handles-first x y first = λ started. absurd (true≢false (sym started ∙ first))

pub keeps-still : (x y : TurnRank) → y.node.value.kept ≡ x.node.value.kept → KeepsHandles x y
keeps-still x y same = λ started. same

some-one : {A : Type 0} {a b : A} → Some a ≡ Some b → a ≡ b
some-one e = cc

other-start : (hs ks : Handles) (e : Local) → entry hs Start ≡ entry ks e → ks ≡ hs
other-start hs ks Start e = some-one (ap (λ (x : Entry). x.1) (sym e))
other-start hs ks (Receive s lane m) e = absurd (let f = ap (λ (x : Entry). x.1) e in cc)
other-start hs ks (Fire t) e = absurd (let f = ap (λ (x : Entry). x.1) e in cc)

same-first : {A : Type 0} (x y : A) (xs ys : List A) → x ∷ xs ≡ y ∷ ys → x ≡ y
same-first x y xs ys e = cc

same-rest : {A : Type 0} (x y : A) (xs ys : List A) → x ∷ xs ≡ y ∷ ys → xs ≡ ys
same-rest x y xs ys e = cc

-- the handles at the start of a history are those at the end of any that begins with it
pub same-handles : (hs ks : Handles) (es fs : List Local) → has_start es ≡ true → IsPrefix (map (entry hs) es) (map (entry ks) fs) → ks ≡ hs
same-handles hs ks [] fs started p = absurd (true≢false (sym started))
same-handles hs ks (e ∷ es) [] started p = absurd (let q = p.1 in cc)
same-handles hs ks (Start ∷ es) (f ∷ fs) started p = other-start hs ks f (same-first _ _ _ _ p.1)
same-handles hs ks (Receive s lane m ∷ es) (f ∷ fs) started p =
    same-handles hs ks es fs (started-front false (Receive s lane m) es ∙ started) (p.0, same-rest _ _ _ _ p.1)
same-handles hs ks (Fire t ∷ es) (f ∷ fs) started p = same-handles hs ks es fs (started-front false (Fire t) es ∙ started)
    (p.0, same-rest _ _ _ _ p.1)
