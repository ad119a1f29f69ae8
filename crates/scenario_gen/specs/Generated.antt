-- The text that is made from a number.
use Rattle.std.specs.Prelude.{ℕ, zero, suc, ◌+◌, ◌*◌, ◌/◌, ◌%◌, ◌==◌, if◌then◌else◌, List, [], ◌++◌, codes}
use Rattle.std.specs.Fmt.{decimal}

-- ---- what the number decides

-- how many messages pass through each pipeline
abbrev pub messages : ℕ → ℕ
messages seed = 8 + seed % 41

-- how many rounds each worker makes
abbrev pub rounds : ℕ → ℕ
rounds seed = 2 + seed % 4

-- the first number that the first pipeline sends; the others send those a hundred and two hundred above
abbrev pub first_number : ℕ → ℕ
first_number seed = seed % 1000

-- ---- lines

-- the lines for 0, 1 and so on below n
unfoldable pub for_each : (ℕ → List ℕ) → ℕ → List ℕ
for_each lines zero = []
for_each lines (suc n) = for_each lines n ++ lines n

unfoldable pub right_line : ℕ → ℕ → List ℕ
right_line kernel group = codes "right " ++ (decimal kernel ++ (codes " " ++ (decimal group ++ codes " rw\n")))

unfoldable pub space_line : ℕ → ℕ → List ℕ
space_line space kernel = codes "space " ++ (decimal space ++ (codes " " ++ (decimal kernel ++ codes "\n")))

unfoldable pub registers : ℕ → ℕ → List ℕ
registers a0 a1 = codes " a0 " ++ (decimal a0 ++ (codes " a1 " ++ (decimal a1 ++ codes "\n")))

-- a thread: its number, its space, where it begins, its priority, and what stands in a0 and a1
unfoldable pub thread_line : ℕ → ℕ → ℕ → ℕ → ℕ → ℕ → List ℕ
thread_line thread space pc priority a0 a1 =
    codes "thread " ++ (decimal thread ++ (codes " " ++ (decimal space ++ (codes " " ++ (decimal pc ++ (codes " prio " ++ (decimal priority ++ registers a0 a1)))))))

-- a row: its space, its page, its frame and what stands behind them
unfoldable pub map_line : ℕ → ℕ → ℕ → List ℕ → List ℕ
map_line space page frame flags =
    codes "map " ++ (decimal space ++ (codes " " ++ (decimal page ++ (codes " " ++ (decimal frame ++ (codes " " ++ (flags ++ codes "\n")))))))

-- ---- kernels, spaces and threads

-- There are four kernels. In each pipeline each of them has a space, which is a stage: space s is stage s % 4 of
-- pipeline s / 4.
abbrev pub stage_of : ℕ → ℕ
stage_of space = space % 4

abbrev pub pipeline_of : ℕ → ℕ
pipeline_of space = space / 4

-- a kernel may read and write the group of the programs and messages, and those of its three spaces
abbrev pub rights : ℕ → List ℕ
rights kernel = right_line kernel 0 ++ (right_line kernel (1 + kernel) ++ (right_line kernel (5 + kernel) ++ right_line kernel (9 + kernel)))

abbrev pub space : ℕ → List ℕ
space s = space_line s (stage_of s)

-- the first stage sends, the last one sums up, and the two between pass on
abbrev pub program_of : ℕ → ℕ
program_of stage = if stage == 0 then 0 else (if stage == 3 then 92 else 36)

-- what a stage begins with in a1: the first number that is sent, or what is added to each that is passed on
abbrev pub operand_of : ℕ → ℕ → ℕ
operand_of seed space =
    if stage_of space == 0 then first_number seed + 100 * pipeline_of space else (if stage_of space == 3 then 0 else stage_of space)

-- a stage of a pipeline and two workers in each space
abbrev pub threads : ℕ → ℕ → List ℕ
threads seed space =
    thread_line (3 * space) space (program_of (stage_of space)) 1 (messages seed) (operand_of seed space)
    ++ (thread_line (3 * space + 1) space 148 0 131072 (rounds seed) ++ thread_line (3 * space + 2) space 148 0 131076 (rounds seed))

-- ---- rows

-- where messages come in: from the stage before, and each signals the stage's thread
abbrev pub inbox : ℕ → List ℕ
inbox space = if stage_of space == 0 then [] else map_line space 16 (3 * pipeline_of space + stage_of space) (codes "r signal " ++ decimal (3 * space))

-- where they go out
abbrev pub outbox : ℕ → List ℕ
outbox space = if stage_of space == 3 then [] else map_line space 17 (1 + 3 * pipeline_of space + stage_of space) (codes "rwm")

-- a page of the workers, in the group of the space
abbrev pub page : ℕ → ℕ → List ℕ
page space i = map_line space (32 + i) (128 * (1 + space) + i) (codes "rw")

unfoldable pub rows : ℕ → List ℕ
rows space = map_line space 0 0 (codes "x") ++ (inbox space ++ (outbox space ++ for_each (page space) 48))

-- ---- the programs

-- puts numbers into a page of messages, one a slot, and signals each
unfoldable pub sender : List ℕ
sender = codes "lui t0, 17\nsends:\nsw a1, 0(t0)\nsw a1, 60(t0)\naddi a1, a1, 1\naddi t0, t0, 64\naddi a0, a0, -1\nbne a0, zero, sends\naddi a7, zero, 0\necall\n"

-- takes a message for each signal, adds a number to it and passes it on
unfoldable pub middle : List ℕ
middle = codes "add t2, a0, zero\nlui t0, 17\npasses:\naddi a7, zero, 3\necall\nlw t1, 0(a0)\nadd t1, t1, a1\nsw t1, 0(t0)\nsw t1, 60(t0)\naddi t0, t0, 64\naddi t2, t2, -1\nbne t2, zero, passes\naddi a0, zero, 0\naddi a7, zero, 0\necall\n"

-- takes a message for each signal, and puts out the sum
unfoldable pub last : List ℕ
last = codes "add t2, a0, zero\naddi t3, zero, 0\nsums:\naddi a7, zero, 3\necall\nlw t1, 0(a0)\nadd t3, t3, t1\naddi t2, t2, -1\nbne t2, zero, sums\nadd a0, t3, zero\naddi a7, zero, 2\necall\naddi a0, zero, 0\naddi a7, zero, 0\necall\n"

-- adds a number to a word of each of 48 pages, in rounds, and puts out the sum of what it wrote
unfoldable pub worker : List ℕ
worker = codes "lui t2, 1\nrounds:\nadd t0, a0, zero\naddi t1, zero, 48\npages:\nlw t3, 0(t0)\nadd t3, t3, a1\nsw t3, 0(t0)\nadd t4, t4, t3\nadd t0, t0, t2\naddi t1, t1, -1\nbne t1, zero, pages\naddi a1, a1, -1\nbne a1, zero, rounds\nadd a0, t4, zero\naddi a7, zero, 2\necall\naddi a0, zero, 0\naddi a7, zero, 0\necall\n"

-- ---- the whole

abbrev pub heading : List ℕ
heading = codes "mem 13\ncaps 8 8 16 64\nkernel 0\nkernel 1\nkernel 2\nkernel 3\n"

-- the programs of the stages
unfoldable pub stages : List ℕ
stages = sender ++ (middle ++ last)

-- that of the workers, and the last two lines
unfoldable pub ending : List ℕ
ending = worker ++ codes "endcode\nend\n"

abbrev pub programs : List ℕ
programs = codes "code 0 0\n" ++ (stages ++ ending)

abbrev pub text : ℕ → List ℕ
text seed = heading ++ (for_each rights 4 ++ (for_each space 12 ++ (for_each (threads seed) 12 ++ (for_each rows 12 ++ programs))))
