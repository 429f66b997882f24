-- Conversations, one after the other.
use Rattle.std.proofs.Common.{◌≡◌, ◌∙◌, ℕ, List, [], ◌∷◌, ◌++◌, Option, Result, Ok, Err, refl, sym, ap, subst, append_assoc, append-nil}
use Rattle.std.specs.List.{flat_map}
use Rattle.std.specs.Io.KnownBytes.{Consumes, IsAtEnd, Appends, Keeps}
use Rattle.std.proofs.KnownBytes.{Consumes-nil, Consumes-trans, Appends-nil, Appends-trans, Appends-kept}
use Rattle.serving.specs.Messages.{MessageFact, ReplyFact, IsWhole, message_bytes, reply_bytes}
use Rattle.classfile.specs.declared.profile.Profile.{Profile}
use Rattle.answers.specs.Files.{Input}
use Rattle.serving.specs.KnownClasses.{KnownClass, BecomeKnown}
use Rattle.serving.specs.Steps.{Steps}
use Rattle.serving.specs.Conversations.{AreWhole, AreAnswered, Conversation, IsStopped, Stops, Serves}
use Rattle.serving.specs.declared.setting.Setting.{Setting}
use Rattle.serving.specs.declared.stop.Stop.{Stop}
use Rattle.serving.specs.private.Serving.{Answers}

both_flat : {A : Type 0} (f : A → List ℕ) (xs ys : List A) → flat_map f (xs ++ ys) ≡ flat_map f xs ++ flat_map f ys
both_flat f [] ys = refl
both_flat f (x ∷ xs) ys = ap (λ l. f x ++ l) (both_flat f xs ys) ∙ sym (append_assoc (f x) (flat_map f xs) (flat_map f ys))

both_whole : (ms ns : List MessageFact) → AreWhole ms → AreWhole ns → AreWhole (ms ++ ns)
both_whole [] ns x y = y
both_whole (m ∷ ms) ns x y = (x.0, both_whole ms ns x.1 y)

both_answered : (s : Setting) (old mid new : List KnownClass) (ms ns : List MessageFact) (rs qs : List ReplyFact) → AreAnswered s old ms rs mid → AreAnswered s mid ns qs new → AreAnswered s old (ms ++ ns) (rs ++ qs) new
both_answered s old mid new [] ns [] qs x y = subst (λ k. AreAnswered s k ns qs new) x y
both_answered s old mid new [] ns (r ∷ rs) qs x y = absurd x
both_answered s old mid new (m ∷ ms) ns [] qs x y = absurd x
both_answered s old mid new (m ∷ ms) ns (r ∷ rs) qs (next, step, x) y = (next, step, both_answered s next mid new ms ns rs qs x y)

-- nothing is said
pub none_yet : (s : Setting) (known : List KnownClass) (a o : Option (List ℕ)) → Conversation s known known a a o o
none_yet s known a o = record { messages = []; replies = []; whole = tt; answered = refl; taken = Consumes-nil a; written = Appends-nil o }

-- one conversation and then another
pub both : (s : Setting) (old mid new : List KnownClass) (a b c o p q : Option (List ℕ)) → Conversation s old mid a b o p → Conversation s mid new b c p q → Conversation s old new a c o q
both s old mid new a b c o p q x y = record {
  messages = x.messages ++ y.messages;
  replies = x.replies ++ y.replies;
  whole = both_whole x.messages y.messages x.whole y.whole;
  answered = both_answered s old mid new x.messages y.messages x.replies y.replies x.answered y.answered;
  taken = subst (Consumes a c) (sym (both_flat message_bytes x.messages y.messages)) (Consumes-trans a b c _ _ x.taken y.taken);
  written = subst (Appends o q) (sym (both_flat reply_bytes x.replies y.replies)) (Appends-trans o p q _ _ x.written y.written);
}

-- one message and its reply
pub single : (s : Setting) (old new : List KnownClass) (a b o p : Option (List ℕ)) → Answers s old new a b o p → Conversation s old new a b o p
single s old new a b o p (m, reply, whole, step, taken, written) = record {
  messages = m ∷ [];
  replies = reply ∷ [];
  whole = (whole, tt);
  answered = (new, step, refl);
  taken = subst (Consumes a b) (sym (append-nil (message_bytes m))) taken;
  written = subst (Appends o p) (sym (append-nil (reply_bytes reply))) written;
}

-- nothing more was taken and written
pub still : (s : Setting) (old new : List KnownClass) (a b c o p q : Option (List ℕ)) → Conversation s old new a b o p → Consumes b c [] → Keeps p q → Conversation s old new a c o q
still s old new a b c o p q x taken kept = record {
  messages = x.messages;
  replies = x.replies;
  whole = x.whole;
  answered = x.answered;
  taken = subst (Consumes a c) (append-nil _) (Consumes-trans a b c (flat_map message_bytes x.messages) [] x.taken taken);
  written = Appends-kept o p q _ x.written kept;
}

-- messages were answered, and then others, and then it stopped
pub stops_behind : (s : Setting) (old mid : List KnownClass) (a b c o p q : Option (List ℕ)) (stop : Stop) → Conversation s old mid a b o p → Stops s mid b c p q stop → Stops s old a c o q stop
stops_behind s old mid a b c o p q stop x (new, here, so_far, y, why) = (new, here, so_far, both s old mid new a b here o p so_far x y, why)

-- ---- the classes that are known from the beginning

pub become_more : (profile : Profile) (old mid new : List KnownClass) (files : List Input) (file : Input) → BecomeKnown profile old files mid → BecomeKnown profile mid (file ∷ []) new → BecomeKnown profile old (files ++ file ∷ []) new
become_more profile old mid new [] file same one = subst (λ ks. BecomeKnown profile ks (file ∷ []) new) same one
become_more profile old mid new (f ∷ files) file (class, formed, free, rest) one = (class, formed, free, become_more profile _ mid new files file rest one)
