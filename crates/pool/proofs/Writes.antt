-- Writing entries one after the other, as the loop does.
use Rattle.std.proofs.Common.{◌≡◌, ℕ, Bool, List, [], ◌∷◌, ◌++◌, length, Result, Ok, Err, sym, ap, subst, ◌∙◌, arith, get_or, false, ◌+◌, ◌≤◌, ◌<◌}
use Rattle.std.proofs.lemmas.List.{nil_from_length, length-map}
use Rattle.pool.specs.declared.constant.Constant.{Constant}
use Rattle.pool.specs.Views.{view, views}
use Rattle.std.specs.Prelude.{nat_eq}
use Rattle.layout.specs.declared.fault.WriteFault.{WriteFault}
use Rattle.layout.specs.Pieces.{Written, writes, then_writes, field}
use Rattle.layout.specs.PieceLaws.{writes_append, others, split}
use Rattle.pool.specs.Entries.{Entry, is_wide, indexed_pieces, entries_pieces, pool_pieces}

pub goes_on : (second : Bool) (e : Entry) (es all : List Entry) (w m : Written) (total : Result Written WriteFault) → all ≡ e ∷ es → writes (indexed_pieces second (nat_eq (length es) 0) e) w ≡ Ok m
    → writes (entries_pieces second all) w ≡ total → writes (entries_pieces (is_wide e) es) m ≡ total
unfolding entries_pieces
goes_on second e es all w m total is h so_far =
    sym (writes_append (indexed_pieces second (nat_eq (length es) 0) e) (entries_pieces (is_wide e) es) w ∙ ap (λ (r : Result Written WriteFault). then_writes r (entries_pieces (is_wide e) es)) h)
    ∙ ap (λ (t : List Entry). writes (entries_pieces second t) w) (sym is) ∙ so_far

pub fails : (second : Bool) (e : Entry) (es all : List Entry) (w : Written) (total : Result Written WriteFault) (f : WriteFault) → all ≡ e ∷ es
    → writes (entries_pieces second all) w ≡ total → writes (indexed_pieces second (nat_eq (length es) 0) e) w ≡ Err f → total ≡ Err f
unfolding entries_pieces
fails second e es all w total f is so_far h =
    sym so_far ∙ ap (λ (t : List Entry). writes (entries_pieces second t) w) is
    ∙ writes_append (indexed_pieces second (nat_eq (length es) 0) e) (entries_pieces (is_wide e) es) w ∙ ap (λ (r : Result Written WriteFault). then_writes r (entries_pieces (is_wide e) es)) h

pub ends : (second : Bool) (all : List Entry) (w : Written) (total : Result Written WriteFault) → all ≡ [] → writes (entries_pieces second all) w ≡ total → total ≡ Ok w
unfolding entries_pieces
ends second all w total is so_far = sym so_far ∙ ap (λ (t : List Entry). writes (entries_pieces second t) w) is

-- the same over a slice that is split
flag : (all : List Constant) (last : Bool) → last ≡ nat_eq (length (others all)) 0 → last ≡ nat_eq (length (views (others all))) 0
flag all last e = e ∙ ap (λ (n : ℕ). nat_eq n 0) (sym (length-map (others all) view))

pub step_ok : (second last : Bool) (x : Constant) (all : List Constant) (w m : Written) (total : Result Written WriteFault) → 1 ≤ length all → x ≡ get_or all 0 x → last ≡ nat_eq (length (others all)) 0
    → writes (indexed_pieces second last (view x)) w ≡ Ok m → writes (entries_pieces second (views all)) w ≡ total → writes (entries_pieces (is_wide (view x)) (views (others all))) m ≡ total
step_ok second last x all w m total le is e h so_far =
    goes_on second (view x) (views (others all)) (views all) w m total (ap views (split all x le is)) (subst (λ (b : Bool). writes (indexed_pieces second b (view x)) w ≡ Ok m) (flag all last e) h) so_far

pub step_err : (second last : Bool) (x : Constant) (all : List Constant) (w : Written) (total : Result Written WriteFault) (f : WriteFault) → 1 ≤ length all → x ≡ get_or all 0 x → last ≡ nat_eq (length (others all)) 0
    → writes (entries_pieces second (views all)) w ≡ total → writes (indexed_pieces second last (view x)) w ≡ Err f → total ≡ Err f
step_err second last x all w total f le is e so_far h =
    fails second (view x) (views (others all)) (views all) w total f (ap views (split all x le is)) so_far (subst (λ (b : Bool). writes (indexed_pieces second b (view x)) w ≡ Err f) (flag all last e) h)

pub step_end : (second : Bool) (all : List Constant) (w : Written) (total : Result Written WriteFault) → length all < 1 → writes (entries_pieces second (views all)) w ≡ total → total ≡ Ok w
step_end second all w total lt so_far = ends second (views all) w total (ap views (nil_from_length all (omega (arith, lt)))) so_far

pub pool_is : (cs : List Constant) → pool_pieces (views cs) ≡ field 2 (length cs + 1) ++ entries_pieces false (views cs)
unfolding pool_pieces
pool_is cs = ap (λ (n : ℕ). field 2 (n + 1) ++ entries_pieces false (views cs)) (length-map cs view)
