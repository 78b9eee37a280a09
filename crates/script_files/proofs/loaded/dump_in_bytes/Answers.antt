use Rattle.std.proofs.Common.{◌≡◌, ◌≤◌, ℕ, List, Err, length, refl, subst, arith}
use Rattle.std.proofs.lemmas.Bool.{le-ltb}
use Rattle.doc_tree.specs.Tree.{DocTree}
use Rattle.dump_text.specs.Answers.{IsLoaded, Reads}
use Rattle.dump_text.specs.Contents.{contents_of}
use Rattle.dump_text.specs.Laws.{IsDump}
use Rattle.dump_text.specs.declared.fault.LoadError.{LoadError}
use Rattle.dump_text.specs.declared.fault.LoadError.TheVariants as load
use Rattle.dump_text.specs.declared.fault.LoadFault.{LoadFault}
use Rattle.script_files.specs.Loaded.{IsDumpFile, dump_in}
use Rattle.script_files.specs.declared.fault.Fault.TheVariants.{Dump}
use Rattle.script_files.proofs.loaded.dump_in_bytes.Goals as goal

-- bytes within their size have the fault of the reading
faulty : (bytes : List ℕ) (error : LoadError) (fault : LoadFault) → length bytes ≤ 1048576
    → error ≡ load.Fault fault → Reads (Err error) (contents_of bytes)
    → dump_in bytes ≡ Err (Dump fault.line fault.kind)
faulty bytes error fault short is reads =
    let read : contents_of bytes ≡ Err fault =
    subst (λ e. Reads (Err e) (contents_of bytes)) is reads in
    rw (le-ltb 1048576 (length bytes) short, read) refl

-- what is refused is no dump
no_dump : (bytes : List ℕ) (error : LoadError) (fault : LoadFault) → error ≡ load.Fault fault
    → ((v : ℕ) (t : DocTree) → IsDump bytes v t → IsLoaded (Err error) v t)
    → IsDumpFile bytes → ⊥
no_dump bytes error fault is dumps good =
    subst (λ e. IsLoaded (Err e) good.1 good.2) is (dumps good.1 good.2 good.3)

pub returns-in-Err-Fault : goal.returns-in-Err-Fault
returns-in-Err-Fault c =
    let error = c.in-Err-Fault.field-0 in
    let fault = c.in-Err-Fault.field-0-0 in
    let bytes = c.args.bytes.now in
    record {
      loaded = (
        refl,
        (
          faulty bytes error fault (omega (arith, c.if-bytes-gt-LARGEST_FILE.false))
              c.in-Err-Fault.field-0-is c.in-Err-Fault.ensures.contents,
          no_dump bytes error fault c.in-Err-Fault.field-0-is c.in-Err-Fault.ensures.dumps,
        ),
      );
    }
