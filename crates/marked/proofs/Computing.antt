-- What a definition of this crate computes with.
use Rattle.kernel.proofs.Computing.{computing_kernel}
use Rattle.marked.specs.Marked.{bytes_of, in_a_row, task_words, contents, file_of, event_file, task0, task1, sample, supervisor, sample_lines}
use Rattle.marked.specs.Marked.{p1, p2, p3, p4, p5, p6, p7, p8_done, p8_not, p9, p10, p11_accepted, p11_ignored}

-- the bytes of a marked example and the lines that it is to print: a proof that computes them says `unfolding computing_examples`
unfoldable pub computing_examples : Unit {0}
unfolding bytes_of in_a_row task_words contents file_of event_file task0 task1 sample supervisor sample_lines p1 p2 p3 p4 p5 p6 p7 p8_done p8_not p9 p10 p11_accepted p11_ignored
computing_examples = tt

-- and what a run of it prints
unfoldable pub computing_marked : Unit {0}
unfolding computing_kernel computing_examples
computing_marked = tt
