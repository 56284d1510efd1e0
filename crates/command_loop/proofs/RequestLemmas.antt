-- Requests that were served in order.
use Rattle.std.proofs.Common.{◌≡◌, ℕ, ◌+◌, suc, List, [], ◌∷◌, ◌++◌, length, map, drop, refl, sym}
use Rattle.std.proofs.Common.{◌∙◌, ap, subst, append_assoc, append-nil, length-append, arith}
use Rattle.std.specs.Prelude.{zip, Option, Result, Ok, Err}
use Rattle.std.proofs.Math.Seq.{drop-append_seam}
use Rattle.std.specs.Io.KnownBytes.{Appends}
use Rattle.module_map.specs.World.{World}
use Rattle.io_streams.proofs.StreamLemmas.{appends_then, appends_nothing, grows_then}
use Rattle.io_streams.proofs.StreamLemmas.{grows_nothing}
use Rattle.io_streams.specs.Streams.{Grows, IsBeginning}
use Rattle.io_streams.specs.declared.faults.FetchFault.{FetchFault}
use Rattle.io_streams.specs.declared.options.Options.{Options}
use Rattle.command_loop.specs.declared.commands.BadLine.{BadLine}
use Rattle.command_loop.specs.Requests.{Request}
use Rattle.command_loop.specs.Requests.Request.{Load, Unload, Move, ListAll, Ask}
use Rattle.command_loop.specs.Replies.{Outcome, step, question}
use Rattle.command_loop.specs.Text.{text}
use Rattle.command_loop.specs.Output.{Requests, Exchanges, replies, world_after, questions, Asked}
use Rattle.command_loop.specs.Private.Progress.{RunState, ServesRequest, FailsToReply}
use Rattle.command_loop.specs.Private.Progress.{ServedInOrder, StopsAtRequest}

pub map_append : {X Y : Type 0} (f : X → Y) (xs ys : List X) → map f (xs ++ ys) ≡ map f xs
    ++ map f ys
map_append f [] ys = refl
map_append f (x ∷ xs) ys = ap (λ z. f x ∷ z) (map_append f xs ys)

pub questions-append : (xs ys : List (Result Request BadLine)) → questions (xs ++ ys) ≡ questions xs
    ++ questions ys
questions-append [] ys = refl
questions-append (x ∷ xs) ys =
    ap (λ (z : List (List ℕ)). question x ++ z) (questions-append xs ys)
    ∙ sym (append_assoc (question x) (questions xs) (questions ys))

pub zip-append : {X Y : Type 0} (xs xs' : List X) (ys ys' : List Y) → length ys ≡ length xs
    → zip (xs ++ xs') (ys ++ ys') ≡ zip xs ys ++ zip xs' ys'
zip-append [] xs' [] ys' e = refl
zip-append [] xs' (y ∷ ys) ys' e = absurd (omega arith)
zip-append (x ∷ xs) xs' [] ys' e = absurd (omega arith)
zip-append (x ∷ xs) xs' (y ∷ ys) ys' e =
    ap (λ z. (x, y) ∷ z) (zip-append xs xs' ys ys' (omega arith))

pub map-length : {X Y : Type 0} (f : X → Y) (xs : List X) → length (map f xs) ≡ length xs
map-length f [] = refl
map-length f (x ∷ xs) = ap (λ n. suc n) (map-length f xs)

abbrev pub fetches : List Outcome → List (Result (List ℕ) FetchFault)
fetches outcomes = map (λ (outcome : Outcome). outcome.fetched) outcomes

-- questions and results, followed by more of them
pub asked-then : (a b c : Exchanges) (qs qs' : List (List ℕ)) (os os' : List Outcome)
    → Asked a b qs os → Asked b c qs' os' → Asked a c (qs ++ qs') (os ++ os')
asked-then a b c qs qs' os os' h k = record {
  each = length-append os os' ∙ ap (λ n. n + length os') h.each ∙ ap (λ n. length qs + n) k.each
      ∙ sym (length-append qs qs');
  asked =
      let joined : zip qs (fetches os) ++ zip qs' (fetches os')
      ≡ zip (qs ++ qs') (fetches (os ++ os')) =
      sym (zip-append qs qs' (fetches os) (fetches os') (map-length _ os ∙ h.each))
      ∙ ap (zip (qs ++ qs')) (sym (map_append _ os os')) in
      let P : List (List ℕ × Result (List ℕ) FetchFault) → Type 0 = λ z. Grows a c z in
      subst P joined (grows_then a b c (zip qs (fetches os)) (zip qs' (fetches os')) h.asked
      k.asked);
}

-- the world after some requests, followed by others
pub world-then : (rs ss : Requests) (world : World) (os os' : List Outcome)
    → length os ≡ length (questions rs)
    → world_after world (rs ++ ss) (os ++ os') ≡ world_after (world_after world rs os) ss os'
world-then [] ss world [] os' e = refl
world-then [] ss world (o ∷ os) os' e = absurd (omega arith)
world-then (Err fault ∷ rs) ss world os os' e = world-then rs ss _ os os' e
world-then (Ok (Ask a) ∷ rs) ss world os os' e = world-then rs ss _ os os' e
world-then (Ok ListAll ∷ rs) ss world os os' e = world-then rs ss _ os os' e
world-then (Ok (Unload n) ∷ rs) ss world os os' e = world-then rs ss _ os os' e
world-then (Ok (Move n b) ∷ rs) ss world os os' e = world-then rs ss _ os os' e
world-then (Ok (Load n b p) ∷ rs) ss world [] os' e = absurd (omega arith)
world-then (Ok (Load n b p) ∷ rs) ss world (o ∷ os) os' e = world-then rs ss _ os os' (omega arith)

push-text : (t a b c : List ℕ) → c ≡ a ++ b → t ++ c ≡ (t ++ a) ++ b
push-text t a b c h = ap (λ (z : List ℕ). t ++ z) h ∙ sym (append_assoc t a b)

-- the replies to some requests, followed by others
pub replies-then : (options : Options) (rs ss : Requests) (world : World) (os os' : List Outcome)
    → length os ≡ length (questions rs)
    → replies options world (rs ++ ss) (os ++ os') ≡ replies options world rs os
    ++ replies options (world_after world rs os) ss os'
replies-then options [] ss world [] os' e = refl
replies-then options [] ss world (o ∷ os) os' e = absurd (omega arith)
replies-then options (Err fault ∷ rs) ss world os os' e =
    let next : World = (step world (Err fault) os).world in
    push-text (text options (step world (Err fault) os).reply) (replies options next rs os)
    (replies options (world_after next rs os) ss os') _ (replies-then options rs ss next os os' e)
replies-then options (Ok (Ask a) ∷ rs) ss world os os' e =
    let next : World = (step world (Ok (Ask a)) os).world in
    push-text (text options (step world (Ok (Ask a)) os).reply) (replies options next rs os)
    (replies options (world_after next rs os) ss os') _ (replies-then options rs ss next os os' e)
replies-then options (Ok ListAll ∷ rs) ss world os os' e =
    let next : World = (step world (Ok ListAll) os).world in
    push-text (text options (step world (Ok ListAll) os).reply) (replies options next rs os)
    (replies options (world_after next rs os) ss os') _ (replies-then options rs ss next os os' e)
replies-then options (Ok (Unload n) ∷ rs) ss world os os' e =
    let next : World = (step world (Ok (Unload n)) os).world in
    push-text (text options (step world (Ok (Unload n)) os).reply) (replies options next rs os)
    (replies options (world_after next rs os) ss os') _ (replies-then options rs ss next os os' e)
replies-then options (Ok (Move n b) ∷ rs) ss world os os' e =
    let next : World = (step world (Ok (Move n b)) os).world in
    push-text (text options (step world (Ok (Move n b)) os).reply) (replies options next rs os)
    (replies options (world_after next rs os) ss os') _ (replies-then options rs ss next os os' e)
replies-then options (Ok (Load n b p) ∷ rs) ss world [] os' e = absurd (omega arith)
replies-then options (Ok (Load n b p) ∷ rs) ss world (o ∷ os) os' e =
    let next : World = (step world (Ok (Load n b p)) (o ∷ os)).world in
    push-text (text options (step world (Ok (Load n b p)) (o ∷ os)).reply)
    (replies options next rs os)
    (replies options (world_after next rs os) ss os') _
    (replies-then options rs ss next os os' (omega arith))

-- nothing was served yet
pub handled-none : (options : Options) (start now : RunState) → now.world ≡ start.world
    → now.asked ≡ start.asked
    → now.written ≡ start.written → ServedInOrder options start [] now
handled-none options start now w q t = record {
  outcomes = [];
  answered =
      record {
        each = refl;
        asked = let P = λ (z : Exchanges). Grows start.asked z [] in
            subst P (sym q) (grows_nothing start.asked);
      };
  world_is = w;
  replied = let P = λ (z : Option (List ℕ)). Appends start.written z [] in
      subst P (sym t) (appends_nothing start.written);
}

pub handled-one : (options : Options) (request : Result Request BadLine) (now new : RunState)
    → ServesRequest options request now new
    → ServedInOrder options now (request ∷ []) new
handled-one options request now new s =
    let A : List (List ℕ) → Type 0 = λ z. Asked now.asked new.asked z s.outcomes in
    let W : List ℕ → Type 0 = λ z. Appends now.written new.written z in
    record {
      outcomes = s.outcomes;
      answered = subst A (sym (append-nil (question request))) s.answered;
      world_is = s.steps;
      replied = subst W (sym (append-nil (text options (step now.world request s.outcomes).reply)))
          s.replied;
    }

pub handled-then : (options : Options) (start now new : RunState) (rs ss : Requests)
    → ServedInOrder options start rs now
    → ServedInOrder options now ss new → ServedInOrder options start (rs ++ ss) new
handled-then options start now new rs ss h k =
    let fits : length h.outcomes ≡ length (questions rs) = h.answered.each in
    let P : List (List ℕ) → Type 0 = λ z. Asked start.asked new.asked z
    (h.outcomes ++ k.outcomes) in
    let Q : World → Type 0 = λ z. Appends now.written new.written
    (replies options z ss k.outcomes) in
    let R : List ℕ → Type 0 = λ z. Appends start.written new.written z in
    record {
      outcomes = h.outcomes ++ k.outcomes;
      answered =
          subst P (sym (questions-append rs ss))
          (asked-then start.asked now.asked new.asked (questions rs) (questions ss) h.outcomes
          k.outcomes h.answered k.answered);
      world_is =
          k.world_is ∙ ap (λ (z : World). world_after z ss k.outcomes) h.world_is ∙ sym
          (world-then rs ss start.world h.outcomes k.outcomes fits);
      replied = subst R (sym (replies-then options rs ss start.world h.outcomes k.outcomes fits))
          (appends_then start.written now.written new.written
          (replies options start.world rs h.outcomes)
          (replies options (world_after start.world rs h.outcomes) ss k.outcomes) h.replied
          (subst Q h.world_is k.replied));
    }

pub handled-as : (options : Options) (start now : RunState) (rs ss : Requests) → rs ≡ ss
    → ServedInOrder options start rs now
    → ServedInOrder options start ss now
handled-as options start now rs ss e h = subst (λ (z : Requests). ServedInOrder options start z now)
    e h

-- outcomes that no request takes change nothing
spare-world : (rs : Requests) (world : World) (os os' : List Outcome)
    → length os ≡ length (questions rs)
    → world_after world rs (os ++ os') ≡ world_after world rs os
spare-world rs world os os' e =
    ap (λ (z : Requests). world_after world z (os ++ os')) (sym (append-nil rs))
    ∙ world-then rs [] world os os' e

spare-replies : (options : Options) (rs : Requests) (world : World) (os os' : List Outcome)
    → length os ≡ length (questions rs)
    → replies options world rs (os ++ os') ≡ replies options world rs os
spare-replies options rs world os os' e =
    ap (λ (z : Requests). replies options world z (os ++ os')) (sym (append-nil rs))
    ∙ replies-then options rs [] world os os' e
    ∙ append-nil (replies options world rs os)

drop-seam : (os os' : List Outcome) (n : ℕ) → length os ≡ n → drop n (os ++ os') ≡ os'
drop-seam os os' n e = ap (λ (z : ℕ). drop z (os ++ os')) (sym e) ∙ drop-append_seam os os'

-- a request whose reply was not completely written
pub halts : (options : Options) (start now new : RunState) (rs : Requests)
    (request : Result Request BadLine)
    → ServedInOrder options start rs now → FailsToReply options request now new
    → StopsAtRequest options start rs request new.asked new.written
halts options start now new rs request h f =
    let fits : length h.outcomes ≡ length (questions rs) = h.answered.each in
    let world_is : now.world ≡ world_after start.world rs (h.outcomes ++ f.outcomes) =
    h.world_is ∙ sym (spare-world rs start.world h.outcomes f.outcomes fits) in
    let left_is : f.outcomes ≡ drop (length (questions rs)) (h.outcomes ++ f.outcomes) =
    sym (drop-seam h.outcomes f.outcomes _ fits) in
    record {
      outcomes = h.outcomes ++ f.outcomes;
      answered =
          let P : List (List ℕ) → Type 0 =
          λ z. Asked start.asked new.asked z (h.outcomes ++ f.outcomes) in
          subst P (sym (questions-append rs (request ∷ [])
          ∙ ap (λ (z : List (List ℕ)). questions rs ++ z)
          (append-nil (question request))))
          (asked-then start.asked now.asked new.asked (questions rs) (question request) h.outcomes
          f.outcomes h.answered f.answered);
      part = f.part;
      begins =
          let P : World → Type 0 = λ z. IsBeginning f.part
          (text options (step z request f.outcomes).reply) in
          let Q : List Outcome → Type 0 =
          λ z. IsBeginning f.part (text options
          (step (world_after start.world rs (h.outcomes ++ f.outcomes)) request z).reply) in
          subst Q left_is (subst P world_is f.begins);
      replied =
          let P : List ℕ → Type 0 = λ z. Appends start.written new.written (z ++ f.part) in
          subst P (sym (spare-replies options rs start.world h.outcomes f.outcomes fits))
          (appends_then start.written now.written new.written
          (replies options start.world rs h.outcomes) f.part h.replied f.replied);
    }
