-- Texts written one after the other.
use Rattle.std.proofs.Common.{◌≡◌, ◌<◌, ◌+◌, ℕ, List, [], ◌++◌, refl, ◌∙◌, Option, Some, None, Result, Ok, Err, sym, ap, subst, append_assoc, length, drop, slice_index_or}
use Rattle.std.specs.List.{flat_map}
use Rattle.std.proofs.lemmas.List.{at_drop_more, append-nil}
use Rattle.std.specs.Io.KnownBytes.{Appends, Keeps}
use Rattle.std.proofs.KnownBytes.{Appends-nil, Appends-trans}
use Rattle.printing.specs.Writing.{Writes, AppendsFront}
use Rattle.printing.specs.declared.print.WriteFailed.{WriteFailed}

pub Appends_kept : (a b c : Option (List ℕ)) (bs : List ℕ) → Appends a b bs → Keeps b c → Appends a c bs
Appends_kept None b c bs p q = tt
Appends_kept (Some x) None c bs p q = absurd p
Appends_kept (Some x) (Some y) None bs p q = absurd q
Appends_kept (Some x) (Some y) (Some z) bs p q = q ∙ p

-- a text and a prefix of the text after it are a prefix of both
pub front_behind : (a b c : Option (List ℕ)) (xs ys : List ℕ) → Appends a b xs → AppendsFront b c ys → AppendsFront a c (xs ++ ys)
front_behind a b c xs ys p q =
    let (front, rest, split, more) = q in
    (xs ++ front, rest, ap (λ l. xs ++ l) split ∙ sym (append_assoc xs front rest), Appends-trans a b c xs front p more)

-- after a text, what writes another
pub then_writes : (a b c : Option (List ℕ)) (xs ys : List ℕ) (r : Result (Unit {0}) WriteFailed)
    → Appends a b xs → Writes b c ys r → Writes a c (xs ++ ys) r
then_writes a b c xs ys (Ok u) p q = Appends-trans a b c xs ys p q
then_writes a b c xs ys (Err e) p q = front_behind a b c xs ys p q

-- a prefix of the front is a prefix of the whole
pub front_of_more : (a b : Option (List ℕ)) (xs ys : List ℕ) → AppendsFront a b xs → AppendsFront a b (xs ++ ys)
front_of_more a b xs ys p =
    let (front, rest, split, more) = p in
    (front, rest ++ ys, ap (λ l. l ++ ys) split ∙ append_assoc front rest ys, more)

-- the item at i, in front of those after it
pub item_left : {X : Type 0} (f : X → List ℕ) (xs : List X) (i : ℕ) (x : X) → i < length xs → x ≡ slice_index_or xs i x
    → flat_map f (drop i xs) ≡ f x ++ flat_map f (drop (i + 1) xs)
item_left f xs i x lt here = at_drop_more (flat_map f) xs i x lt ∙ ap (λ y. f y ++ flat_map f (drop (i + 1) xs)) (sym here)

pub front_inside : (a b c : Option (List ℕ)) (whole done part others : List ℕ) → whole ≡ done ++ (part ++ others)
    → Appends a b done → AppendsFront b c part → AppendsFront a c whole
front_inside a b c whole done part others split p q =
    subst (AppendsFront a c) (sym split) (front_behind a b c done (part ++ others) p (front_of_more b c part others q))

-- ---- texts of a list, one after the other

-- a front of the whole was written, and this is left
abbrev pub SoFar : Option (List ℕ) → Option (List ℕ) → List ℕ → List ℕ → Type 0
SoFar old now whole left = (done : List ℕ) × (whole ≡ done ++ left) × Appends old now done

pub none_so_far : (a : Option (List ℕ)) (whole : List ℕ) → SoFar a a whole whole
none_so_far a whole = ([], refl, Appends-nil a)

-- one more was written
pub one_more : (a b c : Option (List ℕ)) (whole text left : List ℕ) → SoFar a b whole (text ++ left) → Appends b c text → SoFar a c whole left
one_more a b c whole text left (done, split, before) now =
    (done ++ text, split ∙ sym (append_assoc done text left), Appends-trans a b c done text before now)

-- a write failed inside the next
pub stops_inside : (a b c : Option (List ℕ)) (whole text left : List ℕ) → SoFar a b whole (text ++ left) → AppendsFront b c text → AppendsFront a c whole
stops_inside a b c whole text left (done, split, before) now = front_inside a b c whole done text left split before now

-- all was written
pub all_written : (a b : Option (List ℕ)) (whole : List ℕ) → SoFar a b whole [] → Appends a b whole
all_written a b whole (done, split, before) = subst (Appends a b) (sym (append-nil done) ∙ sym split) before

pub with_left : (a b : Option (List ℕ)) (whole x y : List ℕ) → x ≡ y → SoFar a b whole x → SoFar a b whole y
with_left a b whole x y same so = subst (SoFar a b whole) same so
