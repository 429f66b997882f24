-- The stack stays within max_stack.
use Rattle.std.proofs.Common.{◌≡◌, ℕ, ◌+◌, ◌≤◌, Bool, true, false, List, [], ◌∷◌, ◌++◌, Option, Some, refl, sym, ap, ◌∙◌, subst, arith}
use Rattle.names.specs.Descriptors.{FieldDescriptor, primitive, class, array}
use Rattle.classfile.specs.Methods.{Method}
use Rattle.hierarchy.specs.World.{World}
use Rattle.insn.specs.declared.kinds.Kind.TheVariants as kinds
use Rattle.insn.specs.OperandStacks.{beneath}
use Rattle.insn.specs.Meanings.{Act}
use Rattle.machine.specs.Values.{Value, number, null, reference, is_wide_value, units, depth_of, field_units}
use Rattle.machine.specs.Heap.{Heap, FitsField, with_fresh}
use Rattle.machine.specs.Effects as effects
use Rattle.machine.specs.Effects.{Demand, Reply, Effect, effect, reply_units}
use Rattle.machine.specs.Demands.{State, HasRoom}
use Rattle.machine.specs.Steps.{Replies, Does}
use Rattle.machine.specs.ByType.{units_of, units_of_all}
use Rattle.machine.specs.OperandTypes.{StackIsWithin}

same_units : (v : Value) → units_of v ≡ units (is_wide_value v)
same_units (number kinds.Int) = refl
same_units (number kinds.Float) = refl
same_units (number kinds.Long) = refl
same_units (number kinds.Double) = refl
same_units null = refl
same_units (reference a) = refl

same_depth : (vs : List Value) → units_of_all vs ≡ depth_of vs
same_depth [] = refl
same_depth (v ∷ vs) = omega (arith, same_units v, same_depth vs)

some_units : (b : Bool) → 1 ≤ units b
some_units true = omega arith
some_units false = omega arith

two_units : (b : Bool) → units b ≤ 2
two_units true = omega arith
two_units false = omega arith

beneath_less : (ns : List Demand) (vs : List Value) → depth_of (beneath ns vs) ≤ depth_of vs
beneath_less [] vs = omega arith
beneath_less (n ∷ ns) [] = omega arith
beneath_less (n ∷ ns) (v ∷ vs) = omega (arith, beneath_less ns vs)

field_is_wide : (w : World) (h : Heap) (t : FieldDescriptor) (v : Value) → FitsField w h t v → units (is_wide_value v) ≡ field_units t
field_is_wide w h (primitive p) v e = ap (λ z. units (is_wide_value z)) e
field_is_wide w h (class c) (number k) e = elim e [ ]
field_is_wide w h (class c) null e = refl
field_is_wide w h (class c) (reference a) e = refl
field_is_wide w h (array c) (number k) e = elim e [ ]
field_is_wide w h (array c) null e = refl
field_is_wide w h (array c) (reference a) e = refl

replied : (w : World) (h : Heap) (r : Reply) (answer : Option Value) (vs rest : List Value) → Replies w h r answer vs → depth_of (vs ++ rest) ≡ reply_units r + depth_of rest
replied w h effects.no_reply answer vs rest e = let q : depth_of (vs ++ rest) ≡ depth_of rest = ap (λ z. depth_of (z ++ rest)) e.1 in omega (arith, q)
replied w h (effects.gives_number k) answer vs rest e = ap (λ z. depth_of (z ++ rest)) e.1
replied w h effects.gives_null answer vs rest e = ap (λ z. depth_of (z ++ rest)) e.1
replied w h (effects.gives_answer t) answer vs rest e =
    let q : depth_of (vs ++ rest) ≡ units (is_wide_value e.0) + depth_of rest = ap (λ z. depth_of (z ++ rest)) e.3 in
    omega (arith, q, field_is_wide w h t e.0 e.2)

module _ (w : World) (m : Method Act) (s : State) (heap : Heap) (answer : Option Value) (to : ℕ) where
  abbrev before : State
  before = record { at = s.at; stack = s.stack; locals = s.locals; heap = heap }

  operated : (ns : List Demand) (r : Reply) (vs us : List Value) → Replies w heap r answer vs → us ≡ vs ++ beneath ns s.stack → reply_units r + depth_of (beneath ns s.stack) ≤ m.max_stack → depth_of us ≤ m.max_stack
  operated ns r vs us k e le =
      let q : depth_of us ≡ reply_units r + depth_of (beneath ns s.stack) = ap depth_of e ∙ replied w heap r answer vs (beneath ns s.stack) k in
      omega (arith, q, le)

  room_after : (t : Effect) (u : State) → Does w t before answer to u → HasRoom m t s → depth_of s.stack ≤ m.max_stack → depth_of u.stack ≤ m.max_stack
  room_after (effects.operates ns l r os on) u d room le = operated ns r d.1.0 u.stack d.1.1 (ap (λ z. z.stack) d.1.2) room
  room_after (effects.calls_special c ns l r) u d room le = operated ns r d.1.0 u.stack d.1.1 (ap (λ z. z.stack) d.1.2) room
  room_after (effects.reads n i) u d room le =
      let q : depth_of u.stack ≡ units (is_wide_value d.0) + depth_of s.stack = ap (λ z. depth_of z.stack) d.3 in
      omega (arith, q, room d.0 d.1)
  room_after (effects.writes n i k) u d room le =
      let p : depth_of s.stack ≡ units (is_wide_value d.0) + depth_of d.1 = ap depth_of d.2 in
      let q : depth_of u.stack ≡ depth_of d.1 = ap (λ z. depth_of z.stack) d.4 in
      omega (arith, p, q, le)
  room_after (effects.increments i) u d room le = let q : depth_of u.stack ≡ depth_of s.stack = ap (λ z. depth_of z.stack) d.1 in omega (arith, q, le)
  room_after (effects.moves fs) u d room le = subst (λ z. depth_of z ≤ m.max_stack) (sym (ap (λ z. z.stack) d.4)) (room d.0 d.1 d.2)
  room_after effects.takes_element u d room le =
      let p : depth_of s.stack ≡ units (is_wide_value d.0) + (1 + depth_of d.3) = ap depth_of d.5 in
      let q : depth_of u.stack ≡ units (is_wide_value d.4) + depth_of d.3 = ap (λ z. depth_of z.stack) d.9 in
      omega (arith, p, q, le, some_units (is_wide_value d.0), two_units (is_wide_value d.4))
  room_after (effects.passes t) u d room le =
      let q : depth_of u.stack ≡ depth_of s.stack = ap (λ z. depth_of z.stack) d.5 ∙ sym (ap depth_of d.2) in
      omega (arith, q, le)
  room_after (effects.creates c) u d room le = let q : depth_of u.stack ≡ 1 + depth_of s.stack = ap (λ z. depth_of z.stack) d.4 in omega (arith, q, room)
  room_after (effects.makes_array ns t) u d room le =
      let q : depth_of u.stack ≡ 1 + depth_of (beneath ns s.stack) = ap (λ z. depth_of z.stack) d.4 in
      omega (arith, q, room)
  room_after (effects.initializes c ns) u d room le =
      let p : depth_of (beneath ns s.stack) ≡ 1 + depth_of d.1 = ap depth_of d.4 in
      let q : depth_of u.stack ≡ depth_of d.1 = ap (λ z. depth_of z.stack) d.7 in
      omega (arith, p, q, le, beneath_less ns s.stack)
  room_after (effects.leaves ns) u d room le = elim d [ ]
  room_after (effects.throws n) u d room le = elim d [ ]
  room_after effects.ends u d room le = elim d [ ]
  room_after effects.stuck u d room le = elim d [ ]

some_same : (a b : Act) → Some a ≡ Some b → a ≡ b
some_same a b e = cc

pub stack_is_within : StackIsWithin
stack_is_within w m s act here k = (
  omega (arith, same_depth s.stack, k.before),
  λ branch answer fresh t h.
      let steps = h.1 in
      let same : steps.act ≡ act = some_same steps.act act (sym steps.here ∙ here) in
      let heap = with_fresh s.heap fresh in
      let does = subst (λ a. Does w (effect m a) (before w m s heap answer steps.to) answer steps.to t) same steps.does in
      omega (arith, same_depth t.stack, room_after w m s heap answer steps.to (effect m act) t does k.after k.before),
)
