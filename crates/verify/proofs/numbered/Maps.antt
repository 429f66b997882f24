-- The frame with which a method begins.
use Rattle.std.proofs.Common.{◌≡◌, ◌∙◌, false, ◌||◌, List, [], ◌∷◌, ◌++◌, map, refl, ap}
use Rattle.names.specs.Descriptors.{FieldDescriptor, primitive, class, array}
use Rattle.classfile.specs.Methods.{Method, Receiver, no_receiver, ready_receiver, own_receiver, receiver_of}
use Rattle.insn.specs.Meanings.{Act}
use Rattle.insn.specs.Kinds.{computed_as}
use Rattle.insn.specs.declared.kinds.Kind.{Kind}
use Rattle.insn.specs.declared.kinds.Kind.TheVariants.{Int, Long, Float, Double}
use Rattle.frames.specs.FrameFact.{FrameFact}
use Rattle.frames.specs.Slots.{number_type, descriptor_type, all_locals}
use Rattle.frames.specs.DeclaredFrames.{has_uninit_this, is_uninit_this, frame_with}
use Rattle.verify.specs.InitialFrames.{receiver_types, initial_types, is_uninitialized, initial_frame}

kind_none : (k : Kind) → is_uninit_this (number_type k) ≡ false
kind_none Int = refl
kind_none Float = refl
kind_none Long = refl
kind_none Double = refl

own_none : (t : FieldDescriptor) → is_uninit_this (descriptor_type t) ≡ false
own_none (primitive p) = kind_none (computed_as p)
own_none (class name) = refl
own_none (array component) = refl

params_none : (ps : List FieldDescriptor) → has_uninit_this (map descriptor_type ps) ≡ false
params_none [] = refl
params_none (p ∷ ps) = ap (λ b. b || has_uninit_this (map descriptor_type ps)) (own_none p) ∙ params_none ps

own_is : (m : Method Act) (r : Receiver) (ps : List FieldDescriptor) → has_uninit_this (receiver_types m r ++ map descriptor_type ps) ≡ is_uninitialized r
own_is m no_receiver ps = params_none ps
own_is m ready_receiver ps = params_none ps
own_is m own_receiver ps = refl

pub begins_so : (m : Method Act) → frame_with m.constant_pool m.code m.max_locals m.max_stack (initial_types m) [] ≡ initial_frame m
begins_so m = ap (λ b. let f : FrameFact = record { locals = all_locals m.max_locals (initial_types m); stack = []; flag = b } in f) (own_is m (receiver_of m) m.type.params)
