-- What a run has done, in terms of another relation between lines and answers.
use Rattle.std.proofs.Common.{◌≡◌, ℕ, List, [], ◌++◌}
use Rattle.std.proofs.Common.{sym, ap, ◌∙◌, subst, inl, inr, append-nil}
use Rattle.std.proofs.KnownBytes.{Keeps-refl}
use Rattle.relay960_engines.specs.declared.bounds.Bounds.{Bounds}
use Rattle.relay960_engines.specs.Lines.{lines_of, whole_lines}
use Rattle.relay960_engines.specs.Runs.{Answered, Answering, Halting, Known, WrotePart, Done, StoppedReading, StoppedWriting, StoppedPast}
use Rattle.relay960_engines.specs.Runs.{StoppedWithoutMemory, StoppedWithin}
use Rattle.relay960_engines.proofs.LineFacts.{lines_before}
use Rattle.relay960_engines.proofs.Prefixes.{part_before}

-- what answers lines by the one relation answers them by the other
abbrev pub Implies : Answering → Answering → Type 0
Implies A B = (ls : List (List ℕ)) (text : List ℕ) → A ls text → B ls text

-- the same for lines before a line for whose answer there was no memory
abbrev pub ImpliesBefore : Halting → Halting → Type 0
ImpliesBefore H K = (ls : List (List ℕ)) (text l : List ℕ) → H ls text l → K ls text l

-- the answers to lines are the beginning of those to these lines and more
abbrev pub Extends : Answering → Type 0
Extends A = (ls ms : List (List ℕ)) (text : List ℕ) → A ls text → (rest : List ℕ) × A (ls ++ ms) (text ++ rest)

module _ (A B : Answering) (implies : Implies A B) (bounds : Bounds) (old_input new_input a b : Known) where
  said : {W : List ℕ → Type 0} (ls : List (List ℕ)) → Answered W A ls → Answered W B ls
  said ls some = record { answers = some.answers; given = implies ls some.answers some.given; written = some.written }

  pub done_said : (n : ℕ) → Done A bounds old_input new_input a b n → Done B bounds old_input new_input a b n
  done_said n done = record {
    input = done.input;
    read = done.read;
    at_end = done.at_end;
    wrote = said (lines_of done.input) done.wrote;
    count = done.count;
    lines_within = done.lines_within;
    bytes_within = done.bytes_within;
  }

  pub reading_said : StoppedReading A bounds old_input new_input a b → StoppedReading B bounds old_input new_input a b
  reading_said stopped = record {
    input = stopped.input;
    read = stopped.read;
    lines_within = stopped.lines_within;
    bytes_within = stopped.bytes_within;
    wrote = said (whole_lines [] stopped.input) stopped.wrote;
  }

  pub past_said : StoppedPast A bounds old_input new_input a b → StoppedPast B bounds old_input new_input a b
  past_said stopped = record {
    seen = stopped.seen;
    unseen = stopped.unseen;
    more = stopped.more;
    ahead = stopped.ahead;
    read = stopped.read;
    lines_within = stopped.lines_within;
    bytes_within = stopped.bytes_within;
    past = stopped.past;
    wrote = said (whole_lines [] stopped.seen) stopped.wrote;
  }

  pub memory_said : (H K : Halting) → ImpliesBefore H K → StoppedWithoutMemory A H bounds old_input new_input a b
      → StoppedWithoutMemory B K bounds old_input new_input a b
  memory_said H K before (inl none) =
      inl (record { no_line = implies [] [] none.no_line; unread = none.unread; unwritten = none.unwritten })
  memory_said H K before (inr at) = inr (record {
    seen = at.seen;
    unseen = at.unseen;
    ahead = at.ahead;
    read = at.read;
    before = at.before;
    stopped = at.stopped;
    lines = at.lines;
    ended = at.ended;
    lines_within = at.lines_within;
    bytes_within = at.bytes_within;
    answers = at.answers;
    given = before at.before at.answers at.stopped at.given;
    written = at.written;
  })

  writing_said : StoppedWriting A bounds old_input new_input a b → StoppedWriting B bounds old_input new_input a b
  writing_said stopped = record {
    seen = stopped.seen;
    unseen = stopped.unseen;
    ahead = stopped.ahead;
    read = stopped.read;
    bytes_within = stopped.bytes_within;
    wrote = elim stopped.wrote [
      | inl part ↦ inl (part.0, said (whole_lines [] stopped.seen) part.1)
      | inr last ↦ inr (last.0, last.1, last.2, said (lines_of stopped.seen) last.3)
    ];
  }

  -- a prefix of the answers to some lines is one of the answers to these and more
  part_of_more : Extends B → (ls ms : List (List ℕ)) → WrotePart B ls a b → WrotePart B (ls ++ ms) a b
  part_of_more extends ls ms part =
      let (rest, given) = extends ls ms part.answers part.given in
      record {
        answers = part.answers ++ rest;
        given = given;
        written = part_before a b part.answers rest part.written;
      }

  prefix_of : Extends B → (stopped : StoppedWriting B bounds old_input new_input a b)
      → WrotePart B (lines_of (stopped.seen ++ stopped.unseen)) a b
  prefix_of extends stopped = elim stopped.wrote [
    | inl part ↦
        let (more, same) = lines_before stopped.seen stopped.unseen in
        subst (λ ls. WrotePart B ls a b) (sym same) (part_of_more extends (whole_lines [] stopped.seen) more part.1)
    | inr last ↦
        let all : stopped.seen ≡ stopped.seen ++ stopped.unseen =
        sym (append-nil stopped.seen) ∙ ap (λ l. stopped.seen ++ l) (sym last.0) in
        subst (λ l. WrotePart B (lines_of l) a b) all last.3
  ]

  pub writing_within : Extends B → StoppedWriting A bounds old_input new_input a b
      → StoppedWithin B bounds old_input new_input a b
  writing_within extends stopped =
      let writing = writing_said stopped in record { stopped = writing; prefix = prefix_of extends writing }

-- nothing was read yet
pub not_begun : (A : Answering) (H : Halting) (bounds : Bounds) (input output : Known) → A [] []
    → StoppedWithoutMemory A H bounds input input output output
not_begun A H bounds input output none =
    inl (record { no_line = none; unread = Keeps-refl input; unwritten = Keeps-refl output })
