mod Answering
mod Free
