mod Taking
mod Answering
